pub mod LeastRoots
pub mod RowLines
pub mod SameLists
pub mod RangeRefusals
pub mod ReadRows
pub mod ReadSections
