pub mod EdgeFilter
