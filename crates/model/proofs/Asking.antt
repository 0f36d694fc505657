-- A walk on a list of options and the walk on a longer one: they are the same, unless the shorter list is asked for more. And a walk
-- meets as many A rows as its choice list has options. Assumes nothing.
use Prim.Native.Nat.{ℕ, zero, suc, ◌<◌, ◌≤◌}
use native.Mathlib.Omega.{arith}
use mathlib.Core.Path.{◌≡◌, refl, sym, ◌∙◌, ap, subst}
use mathlib.Core.Bool.{Bool, true, false, ◌&&◌}
use mathlib.Core.List.{List, [], ◌∷◌, ◌++◌, append-nil}
use lib.Dec.{leb, ltb}
use lib.ListN.{length, drop, length-append, get_or-append}
use native.Mathlib.Decide.{dec_lt}
use borrow.Author.Tests.{ltb-true, lt-ltb, leb-true, leb-false}
use Rattle.model.specs.Limits.{messages_most, levels, calls_most, choices_most}
use Rattle.model.specs.Refusal.{Out, ok, refusal, and_then, calls_refusal, messages_refusal, choices_refusal}
use Rattle.model.specs.Rows.{Row, sheet, message, order, block, call, choice}
use Rattle.model.specs.Place.{line_of}
use Rattle.model.specs.Expansion.{Ops, Progress, fresh_walk, start_of, taken, chosen_more, block_opened, call_made, message_met, order_met, walk_rows, call_at, expand}
use Rattle.model.specs.Order.{Met, met_ops, nothing_met, exchange_of}
use Rattle.model.specs.Answer.{exchange_with}
use Rattle.model.specs.Choice.{is_asked, asks, Beginning, nothing, more}
use Rattle.model.proofs.Bounded.{and_left, and_right, not_both}
use Rattle.model.proofs.Refusal.{not_refused, and_then_ok}

module _ {T : Type 0} (ops : Ops T) where
  abbrev met : Progress T → ℕ
  met s = s.walk.choices

  -- The A rows met never grow fewer, and never more than the options.
  module _ (options : List Bool) where
    pub record Counts (least : ℕ) (s t : Progress T) : Type 0 where
      pub grown : least ≤ met t
      pub within : met s ≤ length options → met t ≤ length options

    counts_on : {least : ℕ} (s u t : Progress T) → least ≤ met u → met u ≡ met s → Counts (met u) u t → Counts least s t
    counts_on s u t l e c = record { grown = omega (arith, c.grown); within = λ h. c.within (omega arith) }

    counts_then : {least : ℕ} (s u t : Progress T) → Counts least s u → Counts (met u) u t → Counts least s t
    counts_then s u t c d = record { grown = omega (arith, c.grown, d.grown); within = λ h. d.within (c.within h) }

    abbrev CallCounts : (Bool → ℕ → ℕ → Progress T → Out (Progress T)) → Type 0
    CallCounts C = (by_choice : Bool) (n line : ℕ) (s t : Progress T) → C by_choice n line s ≡ ok t → Counts (chosen_more by_choice (met s)) s t

    module _ (C : Bool → ℕ → ℕ → Progress T → Out (Progress T)) (calls : CallCounts C) where
      rows_count : (rs : List Row) (line : ℕ) (s t : Progress T) → walk_rows ops options C rs line s ≡ ok t → Counts (met s) s t
      unfolding walk_rows block_opened message_met order_met chosen_more
      rows_count [] line s t w = let e : s ≡ t = cc in subst (Counts (met s) s) e (record { grown = omega arith; within = λ h. h })
      rows_count (sheet n ∷ rs) line s t w = let e : s ≡ t = cc in subst (Counts (met s) s) e (record { grown = omega arith; within = λ h. h })
      rows_count (message a b ∷ rs) line s t w = go (ltb s.walk.count messages_most) w (rows_count rs (suc line) (message_met ops a b s) t)
        where
          go : (c : Bool) → elim c [ true ↦ walk_rows ops options C rs (suc line) (message_met ops a b s) | false ↦ refusal messages_refusal line ] ≡ ok t
              → (walk_rows ops options C rs (suc line) (message_met ops a b s) ≡ ok t → Counts (met s) (message_met ops a b s) t)
              → Counts (met s) s t
          go true w on = counts_on s (message_met ops a b s) t (omega arith) refl (on w)
          go false w on = not_refused w
      rows_count (order x y ∷ rs) line s t w = counts_on s (order_met ops x y s) t (omega arith) refl (rows_count rs (suc line) (order_met ops x y s) t w)
      rows_count (block ∷ rs) line s t w = counts_on s (block_opened ops s) t (omega arith) refl (rows_count rs (suc line) (block_opened ops s) t w)
      rows_count (call n ∷ rs) line s t w =
          let c = and_then_ok (C false n line s) (λ s'. walk_rows ops options C rs (suc line) (block_opened ops s')) t w in
          counts_then s c.0 t (calls false n line s c.0 c.1)
          (counts_on c.0 (block_opened ops c.0) t (omega arith) refl (rows_count rs (suc line) (block_opened ops c.0) t c.2))
      rows_count (choice m n ∷ rs) line s t w =
          let k = taken options (met s) m n in
          let c = and_then_ok (C true k line s) (λ s'. walk_rows ops options C rs (suc line) (block_opened ops s')) t w in
          let d = calls true k line s c.0 c.1 in
          counts_then s c.0 t (record { grown = omega (arith, d.grown); within = d.within })
          (counts_on c.0 (block_opened ops c.0) t (omega arith) refl (rows_count rs (suc line) (block_opened ops c.0) t c.2))

    pub call_counts : (left : ℕ) (file : List Row) → CallCounts (call_at ops options left file)
    unfolding call_at block_opened call_made chosen_more
    call_counts zero file by_choice n line s t w = not_refused w
    call_counts (suc left) file by_choice n line s t w =
        go (ltb s.walk.calls calls_most) (by_choice && leb (length options) (met s)) refl w
        (rows_count (call_at ops options left file) (call_counts left file) (drop (start_of n file) file) (line_of (start_of n file)) (block_opened ops (call_made ops by_choice s)) t)
      where
        inside : Progress T
        inside = block_opened ops (call_made ops by_choice s)

        room : (b : Bool) → (b && leb (length options) (met s)) ≡ false → met s ≤ length options → chosen_more b (met s) ≤ length options
        room true f h = omega (arith, leb-false (length options) (met s) f)
        room false f h = h

        go : (c d : Bool) → (by_choice && leb (length options) (met s)) ≡ d
            → elim c [
              | true ↦ elim d [
                | true ↦ refusal choices_refusal line
                | false ↦ walk_rows ops options (call_at ops options left file) (drop (start_of n file) file) (line_of (start_of n file)) inside
              ]
              | false ↦ refusal calls_refusal line
            ] ≡ ok t
            → (walk_rows ops options (call_at ops options left file) (drop (start_of n file) file) (line_of (start_of n file)) inside ≡ ok t → Counts (met inside) inside t)
            → Counts (chosen_more by_choice (met s)) s t
        go true true f w on = not_refused w
        go true false f w on = let c = on w in record { grown = c.grown; within = λ h. c.within (room by_choice f h) }
        go false d f w on = not_refused w

    pub expand_counts : (file : List Row) (k : T) (t : Progress T) → expand ops options file k ≡ ok t → met t ≤ length options
    unfolding expand
    expand_counts file k t w =
        (rows_count (call_at ops options levels file) (call_counts levels file) (drop (start_of 0 file) file) (line_of (start_of 0 file))
        (record { walk = fresh_walk; kept = k }) t w).within (omega arith)

  -- A list and a longer one.
  module _ (short behind : List Bool) where
    abbrev long : List Bool
    long = short ++ behind

    -- if it is not refused, it has met more A rows than the shorter list has options
    abbrev Beyond : Out (Progress T) → Type 0
    Beyond o = (t : Progress T) → o ≡ ok t → length short < met t

    -- the two walks are the same; or the shorter one is asked for more
    pub data Follows : Out (Progress T) → Out (Progress T) → Type 0 where
      same : {o : Out (Progress T)} → Follows o o
      asked : {line : ℕ} {o : Out (Progress T)} → Beyond o → Follows (refusal choices_refusal line) o

    follows_then : {o o' : Out (Progress T)} (f g : Progress T → Out (Progress T)) → Follows o o' → ((s : Progress T) → Follows (f s) (g s))
        → ((s t : Progress T) → g s ≡ ok t → met s ≤ met t)
        → Follows (and_then o f) (and_then o' g)
    unfolding and_then
    follows_then f g (same {o = ok s}) h k = h s
    follows_then f g (same {o = refusal number line}) h k = same
    follows_then f g (asked {line = line} {o = o} b) h k =
        asked (λ t e. let c = and_then_ok o g t e in omega (arith, b c.0 c.1, k c.0 t c.2))

    -- the option of an A row that the shorter list has one for
    taken_same : (k m n : ℕ) → k < length short → taken short k m n ≡ taken long k m n
    unfolding taken
    taken_same k m n h = rw (get_or-append short behind false k h)

    abbrev CallFollows : (C C' : Bool → ℕ → ℕ → Progress T → Out (Progress T)) → Type 0
    CallFollows C C' = (by_choice : Bool) (n n' line : ℕ) (s : Progress T) → ((by_choice && leb (length short) (met s)) ≡ false → n ≡ n')
        → Follows (C by_choice n line s) (C' by_choice n' line s)

    module _ (C C' : Bool → ℕ → ℕ → Progress T → Out (Progress T)) (calls : CallFollows C C') (counts : CallCounts long C') where
      rows_on : (rs : List Row) (line : ℕ) (s t : Progress T) → walk_rows ops long C' rs line (block_opened ops s) ≡ ok t → met s ≤ met t
      unfolding block_opened
      rows_on rs line s t w = (rows_count long C' counts rs line (block_opened ops s) t w).grown

      rows_follow : (rs : List Row) (line : ℕ) (s : Progress T) → Follows (walk_rows ops short C rs line s) (walk_rows ops long C' rs line s)
      unfolding walk_rows
      rows_follow [] line s = same
      rows_follow (sheet n ∷ rs) line s = same
      rows_follow (message a b ∷ rs) line s = go (ltb s.walk.count messages_most) (rows_follow rs (suc line) (message_met ops a b s))
        where
          go : (c : Bool) → Follows (walk_rows ops short C rs (suc line) (message_met ops a b s)) (walk_rows ops long C' rs (suc line) (message_met ops a b s))
              → Follows
              (elim c [ true ↦ walk_rows ops short C rs (suc line) (message_met ops a b s) | false ↦ refusal messages_refusal line ])
              (elim c [ true ↦ walk_rows ops long C' rs (suc line) (message_met ops a b s) | false ↦ refusal messages_refusal line ])
          go true on = on
          go false on = same
      rows_follow (order x y ∷ rs) line s = rows_follow rs (suc line) (order_met ops x y s)
      rows_follow (block ∷ rs) line s = rows_follow rs (suc line) (block_opened ops s)
      rows_follow (call n ∷ rs) line s =
          follows_then (λ s'. walk_rows ops short C rs (suc line) (block_opened ops s')) (λ s'. walk_rows ops long C' rs (suc line) (block_opened ops s'))
          (calls false n n line s (λ e. refl)) (λ s'. rows_follow rs (suc line) (block_opened ops s')) (rows_on rs (suc line))
      rows_follow (choice m n ∷ rs) line s =
          follows_then (λ s'. walk_rows ops short C rs (suc line) (block_opened ops s')) (λ s'. walk_rows ops long C' rs (suc line) (block_opened ops s'))
          (calls true (taken short (met s) m n) (taken long (met s) m n) line s (λ e. taken_same (met s) m n (leb-false (length short) (met s) e)))
          (λ s'. rows_follow rs (suc line) (block_opened ops s')) (rows_on rs (suc line))

    module _ (file : List Row) where
      body : List Bool → ℕ → Bool → ℕ → Progress T → Out (Progress T)
      body options left by_choice n s =
          walk_rows ops options (call_at ops options left file) (drop (start_of n file) file) (line_of (start_of n file)) (block_opened ops (call_made ops by_choice s))

      call_follows : (left : ℕ) → CallFollows (call_at ops short left file) (call_at ops long left file)
      unfolding call_at body block_opened call_made chosen_more
      call_follows zero by_choice n n' line s e = same
      call_follows (suc left) by_choice n n' line s e =
          go (ltb s.walk.calls calls_most) (by_choice && leb (length short) (met s)) (by_choice && leb (length long) (met s)) refl refl
          (λ k. rows_follow (call_at ops short left file) (call_at ops long left file) (call_follows left) (call_counts long left file)
          (drop (start_of k file) file) (line_of (start_of k file)) (block_opened ops (call_made ops by_choice s)))
        where
          -- the ninth A row of the longer list is that of the shorter one too
          fewer : (b : Bool) → (b && leb (length short) (met s)) ≡ false → (b && leb (length long) (met s)) ≡ true → ⊥
          fewer true f g =
              let p = leb-false (length short) (met s) f in
              let q = leb-true (length long) (met s) g in
              omega (arith, length-append short behind)
          fewer false f g = not_both false g refl

          is_choice : (b : Bool) → (b && leb (length short) (met s)) ≡ true → length short < chosen_more b (met s)
          is_choice true f = omega (arith, leb-true (length short) (met s) f)
          is_choice false f = not_both false f refl

          past : (t : Progress T) → (by_choice && leb (length short) (met s)) ≡ true → body long left by_choice n' s ≡ ok t → length short < met t
          past t f w =
              let c = rows_count long (call_at ops long left file) (call_counts long left file) (drop (start_of n' file) file) (line_of (start_of n' file))
              (block_opened ops (call_made ops by_choice s)) t w in
              omega (arith, c.grown, is_choice by_choice f)

          go : (c d d' : Bool) → (by_choice && leb (length short) (met s)) ≡ d → (by_choice && leb (length long) (met s)) ≡ d'
              → ((k : ℕ) → Follows (body short left by_choice k s) (body long left by_choice k s))
              → Follows
              (elim c [ true ↦ elim d [ true ↦ refusal choices_refusal line | false ↦ body short left by_choice n s ] | false ↦ refusal calls_refusal line ])
              (elim c [ true ↦ elim d' [ true ↦ refusal choices_refusal line | false ↦ body long left by_choice n' s ] | false ↦ refusal calls_refusal line ])
          go false d d' f g on = same
          go true true true f g on = same
          go true true false f g on = asked (λ t w. past t f w)
          go true false true f g on = absurd (fewer by_choice f g)
          go true false false f g on = subst (λ (k : ℕ). Follows (body short left by_choice n s) (body long left by_choice k s)) (e f) (on n)

      pub expand_follows : (t : T) → Follows (expand ops short file t) (expand ops long file t)
      unfolding expand
      expand_follows t =
          rows_follow (call_at ops short levels file) (call_at ops long levels file) (call_follows levels) (call_counts long levels file)
          (drop (start_of 0 file) file) (line_of (start_of 0 file)) (record { walk = fresh_walk; kept = t })

-- what is asked of a walk's exchange is asked of the walk
exchange_asked : (o : Out (Progress Met)) → is_asked (and_then o (λ s. ok (exchange_of s))) ≡ is_asked o
unfolding is_asked and_then
exchange_asked (ok s) = refl
exchange_asked (refusal number line) = refl

module _ (file : List Row) where
  -- the walk on a list of options
  abbrev pub walk_on : List Bool → Out (Progress Met)
  walk_on l = expand met_ops l file nothing_met

  pub asks_walk : (l : List Bool) → is_asked (exchange_with l file) ≡ is_asked (walk_on l)
  unfolding exchange_with
  asks_walk l = exchange_asked (walk_on l)

  pub asked_short : (l : List Bool) → asks file l ≡ true → length l < choices_most
  unfolding asks
  asked_short l e = ltb-true (length l) choices_most (and_left (ltb (length l) choices_most) (is_asked (exchange_with l file)) e)

  pub asked_more : (l : List Bool) → asks file l ≡ true → is_asked (walk_on l) ≡ true
  unfolding asks
  asked_more l e = sym (asks_walk l) ∙ and_right (ltb (length l) choices_most) (is_asked (exchange_with l file)) e

  pub asked_not : (l : List Bool) → asks file l ≡ false → length l < choices_most → is_asked (walk_on l) ≡ false
  unfolding asks
  asked_not l e h = sym (asks_walk l) ∙ (rw (lt-ltb (length l) choices_most h) at e)

  -- a list that asks for nothing more, and one of eight options that begins with it, have the same walk
  pub list_padded : (l behind : List Bool) → asks file l ≡ false → length (l ++ behind) ≡ choices_most → walk_on (l ++ behind) ≡ walk_on l
  unfolding is_asked
  list_padded l behind e n = go (dec_lt (length l) choices_most)
    where
      alike : {o o' : Out (Progress Met)} → Follows met_ops l behind o o' → is_asked o ≡ false → o' ≡ o
      alike same f = refl
      alike (asked b) f = not_both true refl f

      none : (k : List Bool) → length k ≡ 0 → l ++ k ≡ l
      none [] h = append-nil l
      none (b ∷ k) h = absurd (omega arith)

      go : Dec (length l < choices_most) → walk_on (l ++ behind) ≡ walk_on l
      go (yes h) = alike (expand_follows met_ops l behind file nothing_met) (asked_not l e h)
      go (no h) = ap walk_on (none behind (omega (arith, length-append l behind)))

  -- a beginning has at most eight options
  pub beginning_most : {l : List Bool} → Beginning file l → length l ≤ choices_most
  beginning_most nothing = omega arith
  beginning_most (more {l = l} b a option) = omega (arith, asked_short l a, length-append l (option ∷ []))

  -- a walk that is not refused meets as many A rows as its list has options
  pub list_count : {l : List Bool} → Beginning file l → (t : Progress Met) → walk_on l ≡ ok t → t.walk.choices ≡ length l
  unfolding is_asked
  list_count nothing t w = omega (arith, expand_counts met_ops [] file nothing_met t w)
  list_count (more {l = l} b a option) t w =
      go (expand_follows met_ops l (option ∷ []) file nothing_met) (asked_more l a) w
    where
      go : {o o' : Out (Progress Met)} → Follows met_ops l (option ∷ []) o o' → is_asked o ≡ true → o' ≡ ok t → t.walk.choices ≡ length (l ++ (option ∷ []))
      go (same {o = ok s}) f e = not_both false f refl
      go (same {o = refusal number line}) f e = not_refused e
      go (asked past) f e = omega (arith, past t e, length-append l (option ∷ []), expand_counts met_ops (l ++ (option ∷ [])) file nothing_met t w)
