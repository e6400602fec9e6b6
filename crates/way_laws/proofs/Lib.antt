mod OnLoan
mod Ruled
mod Runs
