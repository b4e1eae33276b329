pub mod GeneratorLemmas
