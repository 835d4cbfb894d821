pub mod AttributeRows
pub mod MapRows
pub mod SubscriptRows
pub mod TypeRows
pub mod ValueRows
