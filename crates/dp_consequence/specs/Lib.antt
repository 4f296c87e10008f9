pub mod Demands
pub mod Survival
pub mod Laws
pub use Rattle.dp_consequence.specs.Demands.{mean_demand}
pub use Rattle.dp_consequence.specs.Survival.{is_in_box, is_in_plane, is_in_range, is_met, is_unsurvived, unsurvived_bits, unsurvived_groups}
pub use Rattle.dp_consequence.specs.Laws.{BitsAreTheGroups, BoxTestIsExact}
