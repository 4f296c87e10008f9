-- The forces of a case, by two demands.
use Rattle.std.proofs.Common.{ℕ, zero, suc, List, [], ◌∷◌, Option, Some, None, refl, ℤ, pos}
use Rattle.std.specs.Prelude.{map, slice_get}
use Rattle.dp_plant.specs.declared.cert.Cert.{Cert}
use Rattle.dp_plant.specs.declared.limits.Box3.{Box3}
use Rattle.dp_plant.specs.declared.thrusters.RawCase.{RawCase}
use Rattle.dp_plant.specs.declared.thrusters.Thruster.{Thruster}
use Rattle.dp_alloc.specs.Thrust.{forces_of, thrust_of}
use Rattle.dp_cert.specs.TwinRuns.{AreForcesWithin}
use Rattle.dp_machine.specs.ReplacedReference.{AreBothBounded}

-- two demands from which a thruster's forces are within the bound of its row, whatever the row
unfoldable pub AreDemandsClose : Cert → ℤ → List ℤ → List ℤ → Type 0
AreDemandsClose c spread d d' = (row : List ℤ) → AreForcesWithin c spread row (thrust_of d row) (thrust_of d' row)

no_forces : (c : Cert) (spread : ℤ) (ts : List Thruster) (k : ℕ)
    → AreBothBounded c spread None k (slice_get (map (λ t. pos 0) ts) k) (slice_get (map (λ t. pos 0) ts) k)
no_forces c spread [] k = tt
no_forces c spread (t ∷ ts) zero = (refl, refl)
no_forces c spread (t ∷ ts) (suc k) = no_forces c spread ts k

abbrev case_with : ℕ → Box3 → List (List ℤ) → Option RawCase
case_with lost bounds rows = Some (record { lost = lost; bounds = bounds; b = record { items = rows } })

one_further : (c : Cert) (spread : ℤ) (lost : ℕ) (bounds : Box3) (row : List ℤ) (rows : List (List ℤ)) (k : ℕ) (f f' : Option ℤ)
    → AreBothBounded c spread (case_with lost bounds rows) k f f' → AreBothBounded c spread (case_with lost bounds (row ∷ rows)) (suc k) f f'
one_further c spread lost bounds row rows k None None h = tt
one_further c spread lost bounds row rows k None (Some f') h = absurd h
one_further c spread lost bounds row rows k (Some f) None h = absurd h
one_further c spread lost bounds row rows k (Some f) (Some f') h = h

row_forces : (c : Cert) (spread : ℤ) (lost : ℕ) (bounds : Box3) (rows : List (List ℤ)) (d d' : List ℤ) → AreDemandsClose c spread d d' → (k : ℕ)
    → AreBothBounded c spread (case_with lost bounds rows) k (slice_get (map (thrust_of d) rows) k) (slice_get (map (thrust_of d') rows) k)
unfolding AreDemandsClose
row_forces c spread lost bounds [] d d' h k = tt
row_forces c spread lost bounds (row ∷ rows) d d' h zero = h row
row_forces c spread lost bounds (row ∷ rows) d d' h (suc k) = one_further c spread lost bounds row rows k _ _ (row_forces c spread lost bounds rows d d' h k)

pub forces_close : (c : Cert) (spread : ℤ) (ts : List Thruster) (case : Option RawCase) (d d' : List ℤ) → AreDemandsClose c spread d d' → (k : ℕ)
    → AreBothBounded c spread case k (slice_get (forces_of ts case d) k) (slice_get (forces_of ts case d') k)
forces_close c spread ts None d d' h k = no_forces c spread ts k
forces_close c spread ts (Some case) d d' h k = row_forces c spread case.lost case.bounds case.b.items d d' h k
