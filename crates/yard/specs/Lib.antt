-- What the contracts of `yard` cite beside `simulator`.
pub mod Input
