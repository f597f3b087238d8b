mod ProofLaws
mod SignatureLaws
pub mod InstallLaws
mod KeptLaws
mod HonestLaws
mod TableLaws
pub mod LoadLaws
mod CallLaws
mod ReplyLaws
mod JournalReplies
