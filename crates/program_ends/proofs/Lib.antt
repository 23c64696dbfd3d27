pub mod EndLemmas
mod FolderLemmas
pub mod ImageLemmas
