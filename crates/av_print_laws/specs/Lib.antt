pub mod Spacing
pub mod ReadTypes
pub mod ReadExpressions
pub mod ReadAttributes
pub mod ReadNodes
pub mod WrittenLaws
pub mod WrittenTrees
