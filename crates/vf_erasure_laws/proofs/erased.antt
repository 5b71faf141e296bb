mod Alike
mod Parts
mod Expressions
mod Simple
mod Growing
mod Statements
mod Bodies
mod Keeping
mod Functions
mod Units
pub mod Laws
mod WalkingContracts
mod WalkingExtends
mod WalkingFunctions
pub mod WalkingItems
mod WalkingLists
mod WalkingNames
mod WalkingSeen
mod WalkingStatements
mod WalkingSteps
mod WalkingStructs
mod WalkingTypes
pub mod WalkingUnits
