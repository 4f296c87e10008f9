pub mod SamePlants
pub mod PlantsRead
pub mod Judging
pub mod FileSizes
pub mod ValidGains
pub mod AcceptedPlants
