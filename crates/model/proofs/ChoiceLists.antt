-- The enumeration is exactly the choice lists of the file, each once, in their order, and there are at most 256. Assumes nothing.
use Prim.Native.Nat.{ℕ, zero, suc, ◌+◌, ◌^◌, ◌≤◌}
use native.Mathlib.Omega.{arith}
use mathlib.Core.Path.{◌≡◌, refl, sym, ◌∙◌, ap, subst}
use mathlib.Core.Logic.{◌⊎◌, inl, inr, ⊎_elim}
use mathlib.Core.Bool.{Bool, true, false}
use mathlib.Core.List.{List, [], ◌∷◌, ◌++◌, append-nil, append_assoc}
use lib.ListN.{length, length-append}
use lib.Pow.{pow_pos}
use Rattle.model.specs.Limits.{choices_most}
use Rattle.model.specs.Rows.{Row}
use Rattle.model.specs.Choice.{asks, Beginning, nothing, more, ChoiceList, lists_from, lists_of, Ahead, Among, InOrder, AllLists}
use Rattle.model.proofs.Bounded.{which, not_both}
use Rattle.model.proofs.Asking.{asked_short, beginning_most, list_count}

-- "ahead" goes one way
pub ahead_one_way : (l k : List Bool) → Ahead l k → Ahead k l → ⊥
ahead_one_way [] k a b = a
ahead_one_way (x ∷ l) [] a b = b
ahead_one_way (false ∷ l) (false ∷ k) a b = ahead_one_way l k a b
ahead_one_way (false ∷ l) (true ∷ k) a b = b
ahead_one_way (true ∷ l) (false ∷ k) a b = a
ahead_one_way (true ∷ l) (true ∷ k) a b = ahead_one_way l k a b

-- m is ahead of n, whatever is behind
ahead_split : (l k j : List Bool) → Ahead (l ++ (false ∷ k)) (l ++ (true ∷ j))
ahead_split [] k j = tt
ahead_split (false ∷ l) k j = ahead_split l k j
ahead_split (true ∷ l) k j = ahead_split l k j

-- lists one behind the other
among_left : (l : List Bool) (ls ks : List (List Bool)) → Among l ls → Among l (ls ++ ks)
among_left l [] ks a = elim a [ ]
among_left l (k ∷ ls) ks (inl e) = inl e
among_left l (k ∷ ls) ks (inr a) = inr (among_left l ls ks a)

among_right : (l : List Bool) (ls ks : List (List Bool)) → Among l ks → Among l (ls ++ ks)
among_right l [] ks a = a
among_right l (k ∷ ls) ks a = inr (among_right l ls ks a)

among_either : (l : List Bool) (ls ks : List (List Bool)) → Among l (ls ++ ks) → Among l ls ⊎ Among l ks
among_either l [] ks a = inr a
among_either l (k ∷ ls) ks (inl e) = inl (inl e)
among_either l (k ∷ ls) ks (inr a) = ⊎_elim (λ b. inl (inr b)) (λ b. inr b) (among_either l ls ks a)

in_order_both : (ls ks : List (List Bool)) → InOrder ls → InOrder ks → ((l k : List Bool) → Among l ls → Among k ks → Ahead l k) → InOrder (ls ++ ks)
in_order_both [] ks h g a = g
in_order_both (l ∷ ls) ks h g a = (
  λ k b. ⊎_elim (λ c. h.0 k c) (λ c. a l k (inl refl) c) (among_either k ls ks b),
  in_order_both ls ks h.1 g (λ j k b c. a j k (inr b) c),
)

-- one option more, at the end of one list and within another: the same list, or still within it
within : (q l : List Bool) (o b : Bool) (k : List Bool) → q ++ (o ∷ []) ≡ l ++ (b ∷ k) → (q ≡ l) ⊎ ((j : List Bool) × (q ≡ l ++ (b ∷ j)))
within [] [] o b k e = inl refl
within (x ∷ q) [] o b k e = let h : x ≡ b = cc in inr (q, ap (λ (y : Bool). y ∷ q) h)
within [] (y ∷ l) o b k e = let h : [] ≡ l ++ (b ∷ k) = cc in absurd (omega (arith, ap length h, length-append l (b ∷ k)))
within (x ∷ q) (y ∷ l) o b k e =
    let h : x ≡ y = cc in
    let t : q ++ (o ∷ []) ≡ l ++ (b ∷ k) = cc in
    ⊎_elim (λ (d : q ≡ l). inl (cc)) (λ (d : (j : List Bool) × (q ≡ l ++ (b ∷ j))). let u : q ≡ l ++ (b ∷ d.0) = d.1 in inr (d.0, cc)) (within q l o b k t)

module _ (file : List Row) where
  -- where a beginning goes on, its walk asks
  pub begins_asking : {q : List Bool} → Beginning file q → (l : List Bool) (b : Bool) (k : List Bool) → q ≡ l ++ (b ∷ k) → asks file l ≡ true
  begins_asking nothing l b k e = absurd (omega (arith, ap length e, length-append l (b ∷ k)))
  begins_asking (more {l = q} h a o) l b k e =
      ⊎_elim (λ (d : q ≡ l). subst (λ (z : List Bool). asks file z ≡ true) d a)
      (λ (d : (j : List Bool) × (q ≡ l ++ (b ∷ j))). begins_asking h l b d.0 d.1) (within q l o b k e)

  -- one behind the other
  regroup : (l : List Bool) (b : Bool) (k : List Bool) → l ++ (b ∷ k) ≡ (l ++ (b ∷ [])) ++ k
  regroup l b k = sym (append_assoc l (b ∷ []) k)

  -- every list begins with what it was made from
  lists_begin : (left : ℕ) (l q : List Bool) → Among q (lists_from file left l) → (k : List Bool) × (q ≡ l ++ k)
  unfolding lists_from
  lists_begin zero l q (inl e) = ([], e ∙ sym (append-nil l))
  lists_begin zero l q (inr a) = absurd a
  lists_begin (suc left) l q a = go (asks file l) a (lists_begin left (l ++ (false ∷ [])) q) (lists_begin left (l ++ (true ∷ [])) q)
    where
      onward : (b : Bool) → (k : List Bool) × (q ≡ (l ++ (b ∷ [])) ++ k) → (k : List Bool) × (q ≡ l ++ k)
      onward b h = (b ∷ h.0, h.1 ∙ sym (regroup l b h.0))

      go : (t : Bool) → Among q (elim t [ true ↦ lists_from file left (l ++ (false ∷ [])) ++ lists_from file left (l ++ (true ∷ [])) | false ↦ l ∷ [] ])
          → (Among q (lists_from file left (l ++ (false ∷ []))) → (k : List Bool) × (q ≡ (l ++ (false ∷ [])) ++ k))
          → (Among q (lists_from file left (l ++ (true ∷ []))) → (k : List Bool) × (q ≡ (l ++ (true ∷ [])) ++ k))
          → (k : List Bool) × (q ≡ l ++ k)
      go true a f g =
          ⊎_elim (λ b. onward false (f b)) (λ b. onward true (g b))
          (among_either q (lists_from file left (l ++ (false ∷ []))) (lists_from file left (l ++ (true ∷ []))) a)
      go false (inl e) f g = ([], e ∙ sym (append-nil l))
      go false (inr a) f g = absurd a

  -- every list made is a choice list
  lists_sound : (left : ℕ) (l q : List Bool) → Beginning file l → length l + left ≡ choices_most → Among q (lists_from file left l) → ChoiceList file q
  unfolding lists_from
  lists_sound zero l q h n (inl e) =
      subst (ChoiceList file) (sym e)
      (record { beginning = h; whole = ⊎_elim (λ t. absurd (omega (arith, asked_short file l t))) (λ f. f) (which (asks file l)) })
  lists_sound zero l q h n (inr a) = absurd a
  lists_sound (suc left) l q h n a =
      go (asks file l) refl a (λ b t. lists_sound left (l ++ (b ∷ [])) q (more h t b) (omega (arith, length-append l (b ∷ []))))
    where
      go : (t : Bool) → asks file l ≡ t
          → Among q (elim t [ true ↦ lists_from file left (l ++ (false ∷ [])) ++ lists_from file left (l ++ (true ∷ [])) | false ↦ l ∷ [] ])
          → ((b : Bool) → asks file l ≡ true → Among q (lists_from file left (l ++ (b ∷ []))) → ChoiceList file q)
          → ChoiceList file q
      go true t a f =
          ⊎_elim (λ b. f false t b) (λ b. f true t b)
          (among_either q (lists_from file left (l ++ (false ∷ []))) (lists_from file left (l ++ (true ∷ []))) a)
      go false t (inl e) f = subst (ChoiceList file) (sym e) (record { beginning = h; whole = t })
      go false t (inr a) f = absurd a

  -- every choice list that begins so is made
  lists_complete : (left : ℕ) (l q k : List Bool) → ChoiceList file q → length l + left ≡ choices_most → q ≡ l ++ k → Among q (lists_from file left l)
  unfolding lists_from
  lists_complete zero l q [] c n e = inl (e ∙ append-nil l)
  lists_complete zero l q (b ∷ k) c n e = absurd (omega (arith, beginning_most file c.beginning, ap length e, length-append l (b ∷ k)))
  lists_complete (suc left) l q k c n e =
      go (asks file l) refl k e (λ b j d. lists_complete left (l ++ (b ∷ [])) q j c (omega (arith, length-append l (b ∷ []))) (d ∙ regroup l b j))
    where
      go : (t : Bool) → asks file l ≡ t → (k : List Bool) → q ≡ l ++ k
          → ((b : Bool) (j : List Bool) → q ≡ l ++ (b ∷ j) → Among q (lists_from file left (l ++ (b ∷ []))))
          → Among q (elim t [ true ↦ lists_from file left (l ++ (false ∷ [])) ++ lists_from file left (l ++ (true ∷ [])) | false ↦ l ∷ [] ])
      go true t [] d f = not_both (asks file l) t (subst (λ (z : List Bool). asks file z ≡ false) (d ∙ append-nil l) c.whole)
      go true t (false ∷ j) d f = among_left q (lists_from file left (l ++ (false ∷ []))) (lists_from file left (l ++ (true ∷ []))) (f false j d)
      go true t (true ∷ j) d f = among_right q (lists_from file left (l ++ (false ∷ []))) (lists_from file left (l ++ (true ∷ []))) (f true j d)
      go false t [] d f = inl (d ∙ append-nil l)
      go false t (b ∷ j) d f = not_both (asks file l) (begins_asking c.beginning l b j d) t

  -- in their order
  lists_in_order : (left : ℕ) (l : List Bool) → InOrder (lists_from file left l)
  unfolding lists_from
  lists_in_order zero l = (λ k a. absurd a, tt)
  lists_in_order (suc left) l = go (asks file l) (lists_in_order left (l ++ (false ∷ []))) (lists_in_order left (l ++ (true ∷ [])))
    where
      across : (p q : List Bool) → Among p (lists_from file left (l ++ (false ∷ []))) → Among q (lists_from file left (l ++ (true ∷ []))) → Ahead p q
      across p q a b =
          let c = lists_begin left (l ++ (false ∷ [])) p a in
          let d = lists_begin left (l ++ (true ∷ [])) q b in
          subst (λ (z : List Bool). Ahead z q) (sym (c.1 ∙ sym (regroup l false c.0)))
          (subst (λ (z : List Bool). Ahead (l ++ (false ∷ c.0)) z) (sym (d.1 ∙ sym (regroup l true d.0))) (ahead_split l c.0 d.0))

      go : (t : Bool) → InOrder (lists_from file left (l ++ (false ∷ []))) → InOrder (lists_from file left (l ++ (true ∷ [])))
          → InOrder (elim t [ true ↦ lists_from file left (l ++ (false ∷ [])) ++ lists_from file left (l ++ (true ∷ [])) | false ↦ l ∷ [] ])
      go true f g = in_order_both (lists_from file left (l ++ (false ∷ []))) (lists_from file left (l ++ (true ∷ []))) f g across
      go false f g = (λ k a. absurd a, tt)

  lists_few : (left : ℕ) (l : List Bool) → length (lists_from file left l) ≤ 2 ^ left
  unfolding lists_from
  lists_few zero l = omega arith
  lists_few (suc left) l = go (asks file l) (lists_few left (l ++ (false ∷ []))) (lists_few left (l ++ (true ∷ [])))
    where
      go : (t : Bool) → length (lists_from file left (l ++ (false ∷ []))) ≤ 2 ^ left → length (lists_from file left (l ++ (true ∷ []))) ≤ 2 ^ left
          → length {A = List Bool} (elim t [ true ↦ lists_from file left (l ++ (false ∷ [])) ++ lists_from file left (l ++ (true ∷ [])) | false ↦ l ∷ [] ]) ≤ 2 ^ suc left
      go true f g = omega (arith, length-append (lists_from file left (l ++ (false ∷ []))) (lists_from file left (l ++ (true ∷ []))))
      go false f g = omega (arith, pow_pos left)

  pub all_lists : AllLists file (lists_of file)
  unfolding lists_of
  all_lists =
      record {
        each = λ l. (lists_sound choices_most [] l nothing refl, λ c. lists_complete choices_most [] l l c refl refl);
        in_order = lists_in_order choices_most [];
        once = λ l a. ahead_one_way l l a a;
        few = lists_few choices_most [];
        each_met = λ l c. list_count file c.beginning;
      }
