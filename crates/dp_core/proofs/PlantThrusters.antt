-- A plant's thrusters, one by one.
use Rattle.std.proofs.Common.{List, Some, [], arith, subst, suc, zero, ℕ, ◌∷◌, ◌≡◌, ◌≤ℤ◌}
use Rattle.std.proofs.lemmas.Int.{ints}
use Rattle.std.specs.Prelude.{All, slice_get, slice_index_or}
use Rattle.dp_plant.specs.declared.plant.Plant.{Plant}
use Rattle.dp_plant.specs.declared.thrusters.Thruster.{Thruster}
use Rattle.dp_plant.proofs.PlantFacts.{plant_thrusters}
use Rattle.dp_plant.specs.PlantRanges.{IsThrusterWithin}
use Rattle.dp_core.proofs.Lists.{below-get}

index-is : {A : Type 0} (xs : List A) (k : ℕ) (x d : A) → slice_get xs k ≡ Some x → slice_index_or xs k d ≡ x
index-is [] k x d e = cc
index-is (y ∷ ys) zero x d e = cc
index-is (y ∷ ys) (suc k) x d e = index-is ys k x d e

pub all-at : {A : Type 0} (P : A → Type 0) (xs : List A) (k : ℕ) (x : A) → All P xs → slice_get xs k ≡ Some x → P x
all-at P xs k x all e = subst P (index-is xs k x x e) (all k x (below-get xs k x e))

pub plant-ordered : (p : Plant) (k : ℕ) (t : Thruster) → slice_get p.thrusters.items k ≡ Some t → t.min ≤ℤ t.max
plant-ordered p k t e =
    let w = all-at IsThrusterWithin p.thrusters.items k t (plant_thrusters p) e in
    let below = w.below in
    let above = w.above in
    omega (arith, ints)
