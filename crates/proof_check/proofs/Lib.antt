mod Standing
mod ThoseLemmas
mod TakeLemmas
mod AtomLemmas
mod GivenLemmas
pub mod StepLemmas
mod AssumedLemmas
mod SpanLemmas
mod KeptPieces
mod PlaceLemmas
mod OnceLemmas
mod KeptLemmas
mod HintLemmas
pub mod AnswerLemmas
mod WordLemmas
mod HintWords
mod TextLemmas
mod FrontLemmas
mod WalksHold
mod LinesHold
mod WalkLemmas
