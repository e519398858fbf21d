pub mod MeansLaws
pub mod RowLaws
pub mod ChunkLaws
pub mod BulkLaws
