-- Readings of which some are missing.
use Rattle.std.proofs.Common.{◌≡◌, refl, ap, ◌∙◌, sym, ℕ, [], map, Option, Some, None, ℤ}
use Rattle.std.specs.List.{cons_option}
use Rattle.std.specs.Option.{option_map}
use Rattle.dp_plant.specs.declared.frames.Gust.{Gust}
use Rattle.dp_plant.specs.declared.place.Place.{Place}
use Rattle.dp_fuse.specs.Angles.{fused_angle, turned_by, weighted_turn}
use Rattle.dp_fuse.specs.Fuse.{fuse}
use Rattle.dp_fuse.specs.Gusts.{fused_gust, gust_of, weighted_speed}

-- what is made of each reading that is there
pub map_three : {X Y : Type 0} (f : X → Y) (a b c : Option X) →
    map f (cons_option a (cons_option b (cons_option c []))) ≡ cons_option (option_map f a) (cons_option (option_map f b) (cons_option (option_map f c) []))
map_three f None None None = refl
map_three f None None (Some z) = refl
map_three f None (Some y) None = refl
map_three f None (Some y) (Some z) = refl
map_three f (Some x) None None = refl
map_three f (Some x) None (Some z) = refl
map_three f (Some x) (Some y) None = refl
map_three f (Some x) (Some y) (Some z) = refl

pub place_is : (n e m k : ℤ) → n ≡ m → e ≡ k → ◌≡◌ {A = Place} (record { north = n; east = e }) (record { north = m; east = k })
place_is n e m k north east = rw (north, east) refl

pub angle_is : (base : ℕ) (a b c : Option ℕ) (t : Option ℤ) (r : Option ℕ) →
    t ≡ fuse (cons_option (option_map (weighted_turn base) a) (cons_option (option_map (weighted_turn base) b) (cons_option (option_map (weighted_turn base) c) []))) →
    r ≡ option_map (turned_by base) t →
    r ≡ fused_angle base (cons_option a (cons_option b (cons_option c [])))
angle_is base a b c t r e k = k ∙ ap (option_map (turned_by base)) (e ∙ ap fuse (sym (map_three (weighted_turn base) a b c)))

pub gust_is : (base : ℕ) (a b c : Option Gust) (angle : Option ℕ) (speed : Option ℤ) (r : Option Gust) →
    angle ≡ fused_angle base (cons_option (option_map (λ g. g.angle) a) (cons_option (option_map (λ g. g.angle) b) (cons_option (option_map (λ g. g.angle) c) []))) →
    speed ≡ fuse (cons_option (option_map weighted_speed a) (cons_option (option_map weighted_speed b) (cons_option (option_map weighted_speed c) []))) →
    r ≡ gust_of angle speed →
    r ≡ fused_gust base (cons_option a (cons_option b (cons_option c [])))
gust_is base a b c angle speed r e k is =
    is
    ∙ ap (λ x. gust_of x speed) (e ∙ ap (fused_angle base) (sym (map_three (λ g. g.angle) a b c)))
    ∙ ap (gust_of (fused_angle base (map (λ g. g.angle) (cons_option a (cons_option b (cons_option c [])))))) (k ∙ ap fuse (sym (map_three weighted_speed a b c)))
