pub mod Carried
pub mod Laws
pub mod Origins
