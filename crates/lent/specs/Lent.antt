-- What a call is lent, or refusal 1 or 2. Assumes nothing.
use Rattle.std.specs.Prelude.{ℕ, ◌≡◌, ◌<◌, ◌≤◌, ◌^◌, Result, Ok, Err}
use Rattle.model.specs.Limits.{channels}
use Rattle.outcome.specs.declared.Refusal.{Refusal}
use Rattle.outcome.specs.declared.Reason.TheVariants.{Channel, Bench}

-- the code is a channel's; or refusal 1
abbrev pub IsChannel : ℕ → Result ℕ Refusal → Type 0
IsChannel code (Ok channel) = (channel ≡ code) × (code < channels)
IsChannel code (Err r) = (r ≡ record { reason = Channel; line = 0 }) × (channels ≤ code)

-- the length is at least so much; or refusal 2
abbrev pub IsLong : {A : Type 0} → ℕ → ℕ → Result A Refusal → Type 0
IsLong least length (Ok unit) = least ≤ length
IsLong least length (Err r) = (r ≡ record { reason = Bench; line = 0 }) × (length < least)

-- the line of a refusal fits 32 bits, as C is told it
abbrev pub LineFits : {A : Type 0} → Result A Refusal → Type 0
LineFits (Ok a) = Unit {0}
LineFits (Err r) = r.line < 2 ^ 32
