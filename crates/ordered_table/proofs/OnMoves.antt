-- What turning a part of the lines by one place does to all of them.
use Rattle.std.proofs.Common.{◌≡◌, ℕ, suc, ◌+◌, ◌-◌, ◌<◌, ◌≤◌, List, [], ◌∷◌, ◌++◌, length, take, drop, set, sym, refl, ap, ◌∙◌, ap₂, append_assoc, add-one, arith, length-append, length-drop, take-append-drop, length-take-le, take-take, drop-drop, take_at, drop-set-lt, drop_at}
use lib.Seq.{take-set-le, take-set-lt, drop-append-le}
use borrow.Rule.Slice.PartMut.{put_mid, post_of}
use Rattle.std.specs.List.{insert, remove}
use Rattle.std.proofs.lemmas.List.{take_more_set, drop-take, length-set}

module _ {T : Type 0} where
  turned : (P D : List T) (y : T) (n : ℕ) → P ≡ D ++ (y ∷ []) → n ≡ length P - 1 → drop n P ++ take n P ≡ y ∷ D
  turned P D y n e h =
      let l : length D ≡ n = omega (arith, ap length e, length-append D (y ∷ [])) in
      rw (e, drop_at D (y ∷ []) n l, take_at D (y ∷ []) n l)

  -- the turned part: the new line, then those behind it
  insert_part : (L R : List T) (at used : ℕ) (y : T) → at ≤ used → used < length L →
      R ≡ drop (length (take (used + 1 - at) (drop at (set L used y))) - 1) (take (used + 1 - at) (drop at (set L used y))) ++ take (length (take (used + 1 - at) (drop at (set L used y))) - 1) (take (used + 1 - at) (drop at (set L used y))) →
      R ≡ y ∷ drop at (take used L)
  insert_part L R at used y le lt e =
      let rows : List T = take used L in
      let n : length rows ≡ used = length-take-le used L (omega arith) in
      let P : List T = take (used + 1 - at) (drop at (set L used y)) in
      let sum : at + (used + 1 - at) ≡ used + 1 = omega arith in
      let p1 : P ≡ drop at (take (used + 1) (set L used y)) = sym (drop-take at (used + 1 - at) (set L used y)) ∙ ap (λ k. drop at (take k (set L used y))) sum in
      let p2 : P ≡ drop at (rows ++ (y ∷ [])) = p1 ∙ ap (drop at) (take_more_set L used y lt) in
      let p3 : P ≡ drop at rows ++ (y ∷ []) = p2 ∙ drop-append-le at rows (y ∷ []) (omega arith) in
      e ∙ turned P (drop at rows) y (length P - 1) p3 refl

  pub insert_whole : (L R : List T) (at used : ℕ) (y : T) → at ≤ used → used < length L →
      R ≡ drop (length (take (used + 1 - at) (drop at (set L used y))) - 1) (take (used + 1 - at) (drop at (set L used y))) ++ take (length (take (used + 1 - at) (drop at (set L used y))) - 1) (take (used + 1 - at) (drop at (set L used y))) →
      put_mid at (used + 1 - at) (set L used y) R ≡ insert (take used L) at y ++ drop (used + 1) L
  insert_whole L R at used y le lt e =
      let rows : List T = take used L in
      let a : take at (set L used y) ≡ take at rows = take-set-le at L used y le ∙ sym (take-take at used L le) in
      let sum : at + (used + 1 - at) ≡ used + 1 = omega arith in
      let post : post_of at (used + 1 - at) (set L used y) ≡ drop (used + 1) L =
      drop-drop (used + 1 - at) at (set L used y) ∙ ap (λ k. drop k (set L used y)) sum ∙ drop-set-lt (used + 1) L used y (omega arith) in
      ap₂ (λ x z. x ++ (z ++ post_of at (used + 1 - at) (set L used y))) a (insert_part L R at used y le lt e)
      ∙ ap (λ z. take at rows ++ ((y ∷ drop at rows) ++ z)) post
      ∙ sym (append_assoc (take at rows) (y ∷ drop at rows) (drop (used + 1) L))

  pub remove_whole : (L R : List T) (at used : ℕ) → at < used → used ≤ length L →
      R ≡ drop 1 (take (used - at) (drop at L)) ++ take 1 (take (used - at) (drop at L)) →
      put_mid at (used - at) L R ≡ remove (take used L) at ++ (take 1 (drop at (take used L)) ++ drop used L)
  remove_whole L R at used lt le e =
      let rows : List T = take used L in
      let P : List T = take (used - at) (drop at L) in
      let sum : at + (used - at) ≡ used = omega arith in
      let p1 : P ≡ drop at rows = sym (drop-take at (used - at) L) ∙ ap (λ k. drop at (take k L)) sum in
      let q : drop 1 P ≡ drop (suc at) rows = ap (drop 1) p1 ∙ drop-drop 1 at rows ∙ ap (λ k. drop k rows) (add-one at) in
      let a : take at L ≡ take at rows = sym (take-take at used L (omega arith)) in
      let r : R ≡ drop (suc at) rows ++ take 1 (drop at rows) = e ∙ ap₂ ◌++◌ q (ap (take 1) p1) in
      let post : post_of at (used - at) L ≡ drop used L = drop-drop (used - at) at L ∙ ap (λ k. drop k L) sum in
      ap₂ (λ x z. x ++ (z ++ post_of at (used - at) L)) a r
      ∙ ap (λ z. take at rows ++ ((drop (suc at) rows ++ take 1 (drop at rows)) ++ z)) post
      ∙ ap (λ z. take at rows ++ z) (append_assoc (drop (suc at) rows) (take 1 (drop at rows)) (drop used L))
      ∙ sym (append_assoc (take at rows) (drop (suc at) rows) (take 1 (drop at rows) ++ drop used L))

  -- ---- how many lines there are then

  pub set_whole : (L : List T) (at used : ℕ) (y : T) → at < used → set L at y ≡ set (take used L) at y ++ drop used L
  set_whole L at used y lt = sym (take-append-drop used (set L at y)) ∙ ap₂ ◌++◌ (take-set-lt used L at y lt) (drop-set-lt used L at y lt)

  pub set_length : (L : List T) (at used : ℕ) (y : T) → used ≤ length L → length (set (take used L) at y) ≡ used
  set_length L at used y le = length-set (take used L) at y ∙ length-take-le used L le

  pub inserted_length : (L : List T) (at used : ℕ) (y : T) → at ≤ used → used ≤ length L → length (insert (take used L) at y) ≡ used + 1
  inserted_length L at used y lt le =
      let n : length (take used L) ≡ used = length-take-le used L le in
      omega (arith, length-append (take at (take used L)) (y ∷ drop at (take used L)), length-take-le at (take used L) (omega arith), length-drop at (take used L))

  pub removed_length : (L : List T) (at used : ℕ) → at < used → used ≤ length L → length (remove (take used L) at) ≡ used - 1
  removed_length L at used lt le =
      let n : length (take used L) ≡ used = length-take-le used L le in
      omega (arith, length-append (take at (take used L)) (drop (suc at) (take used L)), length-take-le at (take used L) (omega arith), length-drop (suc at) (take used L))
