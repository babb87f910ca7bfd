pub mod WellLaws
pub mod RowLaws
pub mod TickLaws
pub mod ThereLaws
pub mod RowSteps
pub mod DueSteps
pub mod TextSteps
pub mod TickSteps
