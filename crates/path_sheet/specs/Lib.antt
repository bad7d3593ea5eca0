pub mod PathSheet
