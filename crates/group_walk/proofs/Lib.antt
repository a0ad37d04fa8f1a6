pub mod LevelSteps
pub mod PathLists
pub mod ShownGroups
pub mod ToldSteps
pub mod WalkSteps
