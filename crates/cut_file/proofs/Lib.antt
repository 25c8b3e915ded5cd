pub mod Laws
pub mod FileLaws
pub mod Written
pub mod Contents
