pub mod Fuse
pub mod Places
pub mod Angles
pub mod Gusts
pub mod Ranges
pub mod Laws
pub use Rattle.dp_fuse.specs.Fuse.{alike, fuse, mean_of, present}
pub use Rattle.dp_fuse.specs.Places.{arm_east, arm_north, fused_place, fused_position, origin_by, origin_of, origins_by, place_in, place_of, weighted_east, weighted_north, without_lever}
pub use Rattle.dp_fuse.specs.Angles.{fused_angle, turn_from, turned_by, weighted_turn}
pub use Rattle.dp_fuse.specs.Gusts.{fused_gust, gust_of, weighted_speed}
pub use Rattle.dp_fuse.specs.Ranges.{IsGust, IsSpeed, IsUsable, IsVerdictWithin, IsWeighted, IsWeightedPlace}
pub use Rattle.dp_fuse.specs.Laws.{FusedPlaceIsInHullOfTwo}
