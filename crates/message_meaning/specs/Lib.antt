pub mod Needs
pub mod Rules
pub mod WhatIsPaid
