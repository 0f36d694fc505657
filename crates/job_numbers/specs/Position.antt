-- Where the job with a number stands. Assumes nothing.
use Rattle.std.specs.Prelude.{◌≡◌, ◌<◌, cond, false, length, List, [], ◌∷◌, ℕ, suc, eqb, Option, Some, None}
use Rattle.model.specs.Bounded.{among}
use Rattle.model.specs.Dispatcher as model

-- where the first job with the number stands; as many as there are, if none has it
unfoldable pub position_of : ℕ → List model.Job → ℕ
position_of n [] = 0
position_of n (j ∷ js) = cond (eqb j.number n) 0 (suc (position_of n js))

-- where the job with a number stands; or none has it
abbrev pub IsPosition : ℕ → List model.Job → Option ℕ → Type 0
IsPosition n js (Some i) = (i ≡ position_of n js) × (i < length js)
IsPosition n js None = among n (model.numbers_in js) ≡ false
