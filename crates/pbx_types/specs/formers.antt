pub mod text_map
