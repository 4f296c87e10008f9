pub mod Axis
pub mod Body
pub mod Asked
pub mod WindPush
pub use Rattle.dp_pid.specs.Axis.{IsAlongWithin, IsAxis, IsPlaneAnswer, IsTurnWithin, IsYawAnswer, asked_along, asked_of_plane, asked_of_yaw, is_limited, times_scale_twice}
pub use Rattle.dp_pid.specs.Body.{plane_axis, surge_of, sway_of, yaw_axis, yaw_of}
pub use Rattle.dp_pid.specs.Asked.{AreDemands, demands_of, limited_of}
pub use Rattle.dp_pid.specs.WindPush.{IsWindPush, pushed_by, row_push, wind_push}
