-- What a read came to, by what it answered, and that the bytes of one read after another are all that the reader had. Assumes nothing.
use Rattle.std.proofs.Common.{◌≡◌, sym, ap, ◌∙◌, subst, ℕ, ◌+◌, ◌-◌, ◌≤◌, ◌<◌, List, ◌++◌, length, take, drop, length-take, length-append, length-drop, append_assoc, arith, drop_at, Option, None, Some, Result, Ok, Err}
use Rattle.std.proofs.Math.Seq.{take-add}
use Rattle.std.proofs.lemmas.List.{take-append-le}
use borrow.Rule.Slice.PartMut.{put_mid}
use Rattle.std.specs.Io.{ReadsAtMost}
use Rattle.std.specs.Io.KnownBytes.{Consumes, ReadConsumes}
use Rattle.std.specs.declared.io.Error.{Error}
use Rattle.input.specs.Reading.{Room, Taken}

consumes_more : (a b c : Option (List ℕ)) (xs ys : List ℕ) → Consumes a b xs → Consumes b c ys → Consumes a c (xs ++ ys)
consumes_more None b c xs ys h k = tt
consumes_more (Some old) None c xs ys h k = absurd h
consumes_more (Some old) (Some mid) None xs ys h k = absurd k
consumes_more (Some old) (Some mid) (Some new) xs ys h k = h ∙ ap (λ l. xs ++ l) k ∙ sym (append_assoc xs ys new)

-- bytes that came fit
pub part_fits : (r : Result ℕ Error) (buf : List ℕ) (at many : ℕ) → ReadsAtMost r buf → at + length buf ≤ many → Room r at many
part_fits (Err e) buf at many h l = tt
part_fits (Ok n) buf at many h l = omega arith

-- what was read into the room behind the first `at` stands there
pub behind : (n at : ℕ) (bytes buf : List ℕ) → n ≤ length buf → at ≤ length bytes
    → take n (drop at (put_mid at (length bytes - at) bytes buf)) ≡ take n buf
behind n at bytes buf h l =
    let e = drop_at (take at bytes) (buf ++ drop (length bytes - at) (drop at bytes)) at (simp length-take (omega arith)) in
    ap (λ xs. take n xs) e ∙ take-append-le n buf (drop (length bytes - at) (drop at bytes)) h

-- what was read stands in the room there was
room_left : (at : ℕ) (bytes buf : List ℕ) → length buf ≡ length bytes - at → at ≤ length bytes → at < length (put_mid at (length bytes - at) bytes buf)
    → 0 < length buf
room_left at bytes buf e l lt =
    omega (arith, length-append (take at bytes) (buf ++ drop (length bytes - at) (drop at bytes)), length-append buf (drop (length bytes - at) (drop at bytes)), length-take at bytes, length-drop (length bytes - at) (drop at bytes), length-drop at bytes)

pub part_taken : (r : Result ℕ Error) (old new : Option (List ℕ)) (at : ℕ) (bytes buf : List ℕ) → ReadsAtMost r buf → ReadConsumes old new r buf
    → length buf ≡ length bytes - at → at ≤ length bytes → Taken r at old new (put_mid at (length bytes - at) bytes buf)
part_taken (Err e) old new at bytes buf h c l m = tt
part_taken (Ok n) old new at bytes buf h c l m =
    (subst (λ (xs : List ℕ). Consumes old new xs) (sym (behind n at bytes buf h.0 m)) c.0, λ z lt. c.1 z (room_left at bytes buf l m lt))

-- one more part behind those that were taken
pub taken_more : (a b c : Option (List ℕ)) (at n : ℕ) (before after : List ℕ) → Consumes a b (take at before) → take at after ≡ take at before
    → Consumes b c (take n (drop at after)) → Consumes a c (take (at + n) after)
taken_more a b c at n before after h e k =
    let h' = subst (λ (xs : List ℕ). Consumes a b xs) (sym e) h in
    subst (λ (xs : List ℕ). Consumes a c xs) (sym (take-add at n after)) (consumes_more a b c (take at after) (take n (drop at after)) h' k)
