-- One call and lists of calls, on states; demand 3.
pub mod Actions
pub mod StepEffects
pub mod OwedSession
pub mod Spacing
pub mod DeskInvariants
pub mod RunSplitting
pub mod ScreenIndex
pub mod Locality
pub mod Screens
pub mod InitialState
pub mod References
pub mod Demand3
pub mod Checks
