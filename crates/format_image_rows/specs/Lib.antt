-- What the contracts of `format_image_rows` cite beside `model`.
pub mod Order
