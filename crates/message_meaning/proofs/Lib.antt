pub mod Copying
pub mod LineReach
pub mod LoanReach
pub mod Paying
pub mod Puts
pub mod Reach
mod Unlike
pub mod Wanting
pub mod WhatIsPaid
pub mod Whole
