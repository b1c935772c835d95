-- What the contracts of `format_image_reader` cite beside `model`.
pub mod Answers
pub mod Walks
