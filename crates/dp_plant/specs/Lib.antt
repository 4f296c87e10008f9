pub mod Vectors
pub mod Observer
pub mod Law
pub mod Step
pub mod Ranges
pub mod Yaw
pub mod YawRanges
pub mod FrameRanges
pub mod PlantRanges
pub mod SoundPlant
pub mod Cases
pub mod Keys
pub mod PlantFile
pub use Rattle.dp_plant.specs.Vectors.{along_east, along_north, along_surge, along_sway, entry, offset, three_zeros}
pub use Rattle.dp_plant.specs.Observer.{component_next, east_of, north_of, plane_next, plane_of, rest_at}
pub use Rattle.dp_plant.specs.Step.{push_of}
pub use Rattle.dp_plant.specs.Ranges.{IsComponentWithin, IsLawGains, IsMeasuredPlace, IsObserverGains, IsPair, IsPlaneBox, IsPlaneSetpoint, IsPlaneWithin, IsPush, IsShare, IsVectorWithin}
pub use Rattle.dp_plant.specs.Yaw.{turn, yaw_next}
pub use Rattle.dp_plant.specs.YawRanges.{IsMeasuredHeading, IsYawBox, IsYawGains, IsYawPush, IsYawSetpoint, IsYawWithin}
pub use Rattle.dp_plant.specs.FrameRanges.{IsFrameInRange, IsFrameWithin, IsGustWithin, IsHeadingSlotWithin, IsPlaceSlotWithin, IsWindSlotWithin}
pub use Rattle.dp_plant.specs.PlantRanges.{AreGroups, AreMasses, AreRefLimits, AreWindShares, IsCaseWithin, IsLever, IsOfVersion, IsOriginWithin, IsSetpointWithin, IsShareRow, IsThrusterWithin, has_case}
pub use Rattle.dp_plant.specs.SoundPlant.{IsPlantWithin, IsSoundPlant}
pub use Rattle.dp_plant.specs.Cases.{IsInBox, IsInRange, box_of, case_of, is_lost, zero_box}
pub use Rattle.dp_plant.specs.Keys.{AreBetween, Gives, IsNoDocument, all_some, each_from, in_section, key_of, seen, tables, wholes}
pub use Rattle.dp_plant.specs.PlantFile.{plant_at, plant_view, square_row, square_rows}
