pub mod ContractsRead
pub mod ParametersRead
pub mod ConstructorsRead
pub mod FixpointsRead
pub mod ItemsRead
