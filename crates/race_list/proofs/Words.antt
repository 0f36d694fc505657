-- The loops: the races of a word, of a message by its words, and of all messages. Assumes nothing.
use mathlib.Core.Path.{◌≡◌, refl, sym, ◌∙◌, ap, subst, subst⁻¹}
use mathlib.Core.Bool.{Bool, true, false, cond, ◌&&◌, and-false}
use mathlib.Core.List.{List, [], ◌∷◌, ◌++◌, append_assoc, append-nil}
use Prim.Native.Nat.{ℕ, zero, suc, ◌+◌, ◌-◌, ◌*◌, ◌/◌, ◌^◌, ◌<◌, ◌≤◌, min}
use native.Mathlib.Nat.{add-zero, add-suc}
use native.Mathlib.Numerals.{add-one}
use native.Mathlib.Omega.{arith}
use lib.Bits.{bit_and, and_le_l}
use lib.Count.{count_trailing_zeros, ones}
use lib.Dec.{ltb, eqb}
use lib.ListN.{length, set, length-append, length-set, length-take}
use lib.Seq.{take-nil}
use borrow.Author.Tests.{lt-ltb, le-ltb}
use Rattle.model.specs.Order.{Event, event, Scenario, receive_of, board}
use Rattle.model.specs.Race.{RaceRule, never, is_race, not_at_or_before}
use Rattle.model.specs.Holdings.{races_of, races_below, races_told}
use Rattle.relation.specs.Width.{word_bits}
use Rattle.relation.specs.Scenario.{scenario_in}
use Rattle.board.specs.Masks.{Standing}
use Rattle.at_or_before.specs.Lent.{Lent}
use Rattle.at_or_before.specs.Reached.{WordOf}
use Rattle.race.specs.declared.Rule.{Rule}
use Rattle.race.specs.declared.Rule.TheVariants.{Never}
use Rattle.race.specs.Bridge.{rule_in}
use Rattle.race.specs.Word.{RaceWord}
use Rattle.race_list.specs.Listing.{row_bits, bits_listed, with_race, with_races, Adds, Tells}
use Rattle.race_list.proofs.Pairs.{races_left, race_put, adds_none, adds_more, adds_same, races_told_from}
use Rattle.race_list.proofs.Bits.{bits_none, bits_most, bits_counted, bits_first}

-- ---- one word

module _ (word e first : ℕ) (output : List ℕ) (found : ℕ) where
  -- what the bits left add is what is missing of the word's races
  pub record Listing (rest : ℕ) (now : List ℕ) (at : ℕ) : Type 0 where
    pub pairs : with_races now at (bits_listed rest e first word_bits) ≡ with_races output found (bits_listed word e first word_bits)
    pub counted : at + length (bits_listed rest e first word_bits) ≡ found + length (bits_listed word e first word_bits)
    pub same : length now ≡ length output
    pub most : at ≤ found + word_bits
    pub small : rest < 2 ^ word_bits

  pub listing_start : word < 2 ^ word_bits → Listing word output found
  listing_start h = record { pairs = refl; counted = refl; same = refl; most = omega arith; small = h }

  pub listing_more : (rest at x : ℕ) (now exit : List ℕ) → Listing rest now at → exit ≡ set (set now (2 * at) e) (2 * at + 1) x
      → x ≡ first + count_trailing_zeros word_bits rest → (rest ≡ 0 → ⊥) → at < length output / 2
      → Listing (bit_and rest (rest - 1)) exit (at + 1)
  unfolding with_races
  listing_more rest at x now exit s i f some room =
      let left = bits_listed (bit_and rest (rest - 1)) e first word_bits in
      let apart = bits_first rest e first s.small some in
      let put : exit ≡ with_race now at (e, first + count_trailing_zeros word_bits rest) =
      i ∙ race_put now at e x (omega (arith, s.same)) ∙ ap (λ (y : ℕ). with_race now at (e, y)) f in
      record {
        pairs =
            ap (λ (l : List ℕ). with_races l (at + 1) left) put
            ∙ ap (λ (k : ℕ). with_races (with_race now at (e, first + count_trailing_zeros word_bits rest)) k left) (add-one at)
            ∙ ap (with_races now at) (sym apart) ∙ s.pairs;
        counted = omega (arith, ap length apart, s.counted);
        same = ap length i ∙ length-set (set now (2 * at) e) (2 * at + 1) x ∙ length-set now (2 * at) e ∙ s.same;
        most = omega (arith, ap length apart, s.counted, bits_most word e first);
        small = omega (arith, s.small, and_le_l rest (rest - 1));
      }

  pub listing_empty : (rest at : ℕ) (now : List ℕ) → Listing rest now at → rest ≡ 0 → Adds (bits_listed word e first word_bits) output found now at
  unfolding with_races
  listing_empty rest at now s z =
      let gone = bits_none rest e first z in
      record { pairs = sym (ap (with_races now at) gone) ∙ s.pairs; next = omega (arith, ap length gone, s.counted) }

  pub listing_full : (rest at r : ℕ) (now : List ℕ) → Listing rest now at → r ≡ ones rest → length output / 2 ≤ at
      → Adds (bits_listed word e first word_bits) output found now (at + r)
  listing_full rest at r now s i room =
      record {
        pairs = sym (races_left now at (bits_listed rest e first word_bits) (omega (arith, s.same))) ∙ s.pairs;
        next = omega (arith, i, bits_counted rest e first s.small, s.counted);
      }

-- ---- one message

unfoldable pub pairs_below : (ℕ → Bool) → ℕ → ℕ → List (ℕ × ℕ)
pairs_below p e zero = []
pairs_below p e (suc x) = pairs_below p e x ++ cond (p x) ((e, x) ∷ []) []

-- the pairs with the events of a word besides are those of its bits
word_pairs : (p : ℕ → Bool) (e w word n : ℕ) → WordOf p w word → n ≤ word_bits
    → pairs_below p e (word_bits * w + n) ≡ pairs_below p e (word_bits * w) ++ bits_listed word e (word_bits * w) n
unfolding pairs_below bits_listed
word_pairs p e w word zero h l = rw (add-zero (word_bits * w)) (sym (append-nil (pairs_below p e (word_bits * w))))
word_pairs p e w word (suc n) h l =
    rw (add-suc (word_bits * w) n, word_pairs p e w word n h (omega arith), h n (omega arith))
    (append_assoc (pairs_below p e (word_bits * w)) (bits_listed word e (word_bits * w) n) (cond (p (word_bits * w + n)) ((e, word_bits * w + n) ∷ []) []))

module _ (count : ℕ) (boards words : List ℕ) (rule : RaceRule) where
  abbrev pub racing : ℕ → ℕ → Bool
  racing e x = ltb x (2 * count) && is_race (scenario_in count boards words) rule e (event x)

  below_all : (e n : ℕ) → n ≤ 2 * count → pairs_below (racing e) e n ≡ races_of (scenario_in count boards words) rule e n
  unfolding pairs_below races_of
  below_all e zero h = refl
  below_all e (suc n) h = rw (below_all e n (omega arith), lt-ltb n (2 * count) h)

  -- no event after the last races
  beyond_all : (e n : ℕ) → pairs_below (racing e) e (2 * count + n) ≡ races_of (scenario_in count boards words) rule e (2 * count)
  unfolding pairs_below
  beyond_all e zero = rw (add-zero (2 * count)) (below_all e (2 * count) (omega arith))
  beyond_all e (suc n) =
      rw (add-suc (2 * count) n, le-ltb (2 * count + n) (2 * count) (omega arith)) (append-nil (pairs_below (racing e) e (2 * count + n)) ∙ beyond_all e n)

  module _ (e : ℕ) (output : List ℕ) (found : ℕ) where
    -- the races of the words below w are added
    pub record Worded (w : ℕ) (now : List ℕ) (at : ℕ) : Type 0 where
      pub added : Adds (pairs_below (racing e) e (word_bits * w)) output found now at
      pub within : w ≤ (2 * count + word_bits - 1) / word_bits
      pub few : at ≤ found + word_bits * w
      pub same : length now ≡ length output

    pub worded_start : Worded 0 output found
    unfolding pairs_below
    worded_start = record { added = adds_none output found; within = omega arith; few = omega arith; same = refl }

    pub worded_more : (w word at k : ℕ) (now exit : List ℕ) → Worded w now at → RaceWord count boards words rule e w word
        → Adds (bits_listed word e (word_bits * w) word_bits) now at exit k → w < (2 * count + word_bits - 1) / word_bits → Worded (w + 1) exit k
    worded_more w word at k now exit s R a h =
        let next : word_bits * w + word_bits ≡ word_bits * (w + 1) = omega arith in
        let both = word_pairs (racing e) e w word word_bits R (omega arith) in
        record {
          added =
              subst (λ (l : List (ℕ × ℕ)). Adds l output found exit k) (sym both ∙ ap (pairs_below (racing e) e) next)
              (adds_more (pairs_below (racing e) e (word_bits * w)) (bits_listed word e (word_bits * w) word_bits) output now exit found at k s.added a);
          within = omega arith;
          few = omega (arith, s.few, a.next, bits_most word e (word_bits * w));
          same = adds_same (bits_listed word e (word_bits * w) word_bits) now exit at k a ∙ s.same;
        }

    pub worded_end : (w at : ℕ) (now : List ℕ) → Worded w now at → (2 * count + word_bits - 1) / word_bits ≤ w
        → Adds (races_of (scenario_in count boards words) rule e (2 * count)) output found now at
    worded_end w at now s h =
        let all : word_bits * w ≡ 2 * count + (word_bits * w - 2 * count) = omega arith in
        subst (λ (l : List (ℕ × ℕ)). Adds l output found now at)
        (ap (pairs_below (racing e) e) all ∙ beyond_all e (word_bits * w - 2 * count)) s.added

-- ---- all messages

module _ (S : Scenario) (rule : RaceRule) where
  one_most : (b : Bool) (race : ℕ × ℕ) → length {A = ℕ × ℕ} (cond b (race ∷ []) []) ≤ 1
  one_most true race = omega arith
  one_most false race = omega arith

  of_most : (e n : ℕ) → length (races_of S rule e n) ≤ n
  unfolding races_of
  of_most e zero = omega arith
  of_most e (suc n) =
      let b = is_race S rule e (event n) in
      omega (arith, of_most e n, one_most b (e, n), length-append (races_of S rule e n) (cond b ((e, n) ∷ []) []))

  below_most : (n : ℕ) → 2 * S.count ≤ row_bits → length (races_below S rule n) ≤ row_bits * n
  unfolding races_below
  below_most zero h = omega arith
  below_most (suc n) h =
      omega (arith, below_most n h, of_most n (2 * S.count), length-append (races_below S rule n) (races_of S rule n (2 * S.count)))

module _ (count : ℕ) (boards words : List ℕ) (rule : RaceRule) (output : List ℕ) where
  -- the races of the messages below e are added
  pub record Messaged (e : ℕ) (now : List ℕ) (at : ℕ) : Type 0 where
    pub added : Adds (races_below (scenario_in count boards words) rule e) output 0 now at
    pub within : e ≤ count
    pub few : at ≤ row_bits * e
    pub same : length now ≡ length output

  pub messaged_start : Messaged 0 output 0
  unfolding races_below
  messaged_start = record { added = adds_none output 0; within = omega arith; few = omega arith; same = refl }

  pub messaged_more : (e at k : ℕ) (now exit masks : List ℕ) → Messaged e now at → Adds (races_of (scenario_in count boards words) rule e (2 * count)) now at exit k
      → e < count → Standing count boards words masks → Messaged (e + 1) exit k
  unfolding races_below
  messaged_more e at k now exit masks s a h S =
      let next : suc e ≡ e + 1 = omega arith in
      record {
        added =
            subst (λ (n : ℕ). Adds (races_below (scenario_in count boards words) rule n) output 0 exit k) next
            (adds_more (races_below (scenario_in count boards words) rule e) (races_of (scenario_in count boards words) rule e (2 * count)) output now exit 0 at k s.added a);
        within = omega arith;
        few = omega (arith, s.few, a.next, of_most (scenario_in count boards words) rule e (2 * count), S.few);
        same = adds_same (races_of (scenario_in count boards words) rule e (2 * count)) now exit at k a ∙ s.same;
      }

  pub messaged_end : (e at : ℕ) (now : List ℕ) → Messaged e now at → count ≤ e → Adds (races_below (scenario_in count boards words) rule count) output 0 now at
  messaged_end e at now s h =
      let all : e ≡ count = omega (arith, s.within) in
      subst (λ (n : ℕ). Adds (races_below (scenario_in count boards words) rule n) output 0 now at) all s.added

-- ---- what is told

none_races : (S : Scenario) (e : ℕ) (x : Event) → is_race S never e x ≡ false
unfolding is_race not_at_or_before
none_races S e x = and-false (eqb (board S x) (S.target e) && S.before x (receive_of e))

never_of : (S : Scenario) (e n : ℕ) → races_of S never e n ≡ []
unfolding races_of
never_of S e zero = refl
never_of S e (suc n) = rw (never_of S e n, none_races S e (event n))

never_below : (S : Scenario) (n : ℕ) → races_below S never n ≡ []
unfolding races_below
never_below S zero = refl
never_below S (suc n) = rw (never_below S n, never_of S n (2 * S.count))

module _ (count : ℕ) (boards words output exit : List ℕ) (rule : Rule) (L : Lent count boards words) where
  pub races_counted : (all listed : ℕ) → Adds (races_below (scenario_in count boards words) (rule_in rule) count) output 0 exit all
      → listed ≡ min (length exit / 2) all → Tells (races_below (scenario_in count boards words) (rule_in rule) count) output exit (record { all = all; listed = listed })
  races_counted all listed a i =
      let races = races_below (scenario_in count boards words) (rule_in rule) count in
      let many : all ≡ length races = omega (arith, a.next) in
      record {
        all = many;
        listed = i ∙ ap (λ (n : ℕ). min (n / 2) all) (adds_same races output exit 0 all a) ∙ ap (min (length output / 2)) many ∙ sym (length-take (length output / 2) races);
        left = a.pairs ∙ races_told_from races output;
        most = omega (arith, L.row_long, below_most (scenario_in count boards words) (rule_in rule) count L.row_long);
      }

module _ (count : ℕ) (boards words output : List ℕ) (rule : Rule) where
  pub races_never : rule ≡ Never → Tells (races_below (scenario_in count boards words) (rule_in rule) count) output output (record { all = 0; listed = 0 })
  unfolding races_told
  races_never i =
      subst⁻¹ (λ (q : RaceRule). Tells (races_below (scenario_in count boards words) q count) output output (record { all = 0; listed = 0 })) (ap rule_in i)
      (subst⁻¹ (λ (races : List (ℕ × ℕ)). Tells races output output (record { all = 0; listed = 0 })) (never_below (scenario_in count boards words) count)
      (record { all = refl; listed = rw (take-nil (length output / 2)); left = rw (take-nil (length output / 2)); most = omega arith }))
