pub mod Responses
pub mod Problems
pub mod Recipes
pub mod Filtering
