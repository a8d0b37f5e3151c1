pub mod ProofViews
