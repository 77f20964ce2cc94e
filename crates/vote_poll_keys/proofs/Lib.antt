mod KeyLaws
pub mod KeysLaws
