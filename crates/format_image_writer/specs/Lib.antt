-- What the contracts of `format_image_writer` cite beside `model`.
pub mod Heads
