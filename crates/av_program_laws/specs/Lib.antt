pub mod Programs
pub mod Walks
pub mod Modules
pub mod WrittenTrees
pub mod ReadTrees
pub mod Sound
pub mod ProgramLaws
pub mod PrintedLaws
