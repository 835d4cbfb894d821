pub mod Steps
pub mod TypeSteps
pub mod ExpressionSteps
pub mod AttributeSteps
pub mod DictionarySteps
pub mod OperationSteps
pub mod NodeSteps
pub mod PartSteps
