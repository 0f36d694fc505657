-- What a search over the rules has met, rule by rule. Assumes nothing.
use Rattle.std.specs.Prelude.{ℕ, suc, cond, ◌&&◌, List, [], ◌∷◌, eqb}
use Rattle.std.specs.Int.Bits.{bit_and, bit_or}
use Rattle.model.specs.Place.{line_of}
use Rattle.model.specs.Senders.{in_set}
use Rattle.coverage.specs.declared.Rule.{Rule}
use Rattle.coverage.specs.declared.Search.{Search}

-- a search for a sender and a receiver, ahead of the first rule
abbrev pub begun : ℕ → ℕ → Search
begun sender receiver = record { sender = sender; receiver = receiver; once = 0; twice = 0; first = 0; second = 0 }

-- a rule with the sender adds its receivers: those met before are met twice
unfoldable pub joined_by : Search → ℕ → ℕ → Search
joined_by s from to =
    cond (in_set from s.sender)
    (record {
      sender = s.sender;
      receiver = s.receiver;
      once = bit_or s.once to;
      twice = bit_or s.twice (bit_and s.once to);
      first = s.first;
      second = s.second;
    })
    s

-- a rule with the pair, at a line, is noted if it is one of the first two
unfoldable pub noted_by : Search → ℕ → Search
noted_by s line =
    cond (eqb s.first 0)
    (record { sender = s.sender; receiver = s.receiver; once = s.once; twice = s.twice; first = line; second = s.second })
    (cond (eqb s.second 0)
    (record { sender = s.sender; receiver = s.receiver; once = s.once; twice = s.twice; first = s.first; second = line })
    s)

-- the search behind the rule with the given number, from 0
unfoldable pub met_by : Search → ℕ → Rule → Search
met_by s number r =
    cond (in_set r.from s.sender && in_set r.to s.receiver)
    (noted_by (joined_by s r.from r.to) (line_of number)) (joined_by s r.from r.to)

-- the search over the rules; i is the number of the first
unfoldable pub searched : ℕ → List Rule → Search → Search
searched i [] s = s
searched i (r ∷ rs) s = searched (suc i) rs (met_by s i r)
