pub mod NoParameters
