-- The extreme of days, day by day, and that there is only one. Assumes nothing of the ranking but its two laws.
use Rattle.std.proofs.Common.{◌≡◌, ℕ, ◌+◌, ◌-◌, ◌≤◌, Bool, true, false, Some, None, Option, sym, refl, ap, ◌∙◌, subst, inl, inr, ⊎_elim, arith}
use Rattle.std.proofs.lemmas.Bool.{both_ways, cases_lt, cases_Bool}
use Rattle.std.proofs.lemmas.Option.{none-some, same_Some}
use Rattle.extremes.specs.declared.search.Extreme.{Extreme}
use Rattle.extremes.specs.Tops.{Full, Lacking, Agree, Tops, Right, Searched, after_day}

same_extreme : {X : Type 0} (e f : Extreme X) → e.reading ≡ f.reading → e.day ≡ f.day → e.recurs ≡ f.recurs → e ≡ f
same_extreme e f x d r = λ i. record { reading = x i; day = d i; recurs = r i }

-- ---- one more day
module _ {X : Type 0} (over : X → X → Bool) (one_way : (x y : X) → over x y ≡ true → over y x ≡ false)
    (chain : (x y z : X) → over x y ≡ false → over y z ≡ false → over x z ≡ false) (at : ℕ → Option X) where
  not_itself : (x : X) → over x x ≡ false
  not_itself x = ⊎_elim (λ t. one_way x x t) (λ f. f) (cases_Bool (over x x))

  -- what holds of the readings up to day n, and of the one on day n + 1, holds of those up to day n + 1
  more : (P : X → Type 0) (n k : ℕ) (x y : X) → Some x ≡ at (n + 1) → (k ≤ n → P y) → P x → k ≤ n + 1 → at k ≡ Some y → P y
  more P n k x y e below here le r =
      ⊎_elim
      (λ lt. below (omega arith))
      (λ ge. let z : k ≡ n + 1 = omega arith in subst P (same_Some x y (e ∙ ap at (sym z) ∙ r)) here)
      (cases_lt k (n + 1))

  pub tops_one : (x : X) → Some x ≡ at 1 → Tops over at 1 x 1 false
  tops_one x e = record {
    from = omega arith;
    to = omega arith;
    held = sym e;
    full = λ k lo hi. let z : 1 ≡ k = omega arith in (x, sym (e ∙ ap at z));
    highest = λ k y lo hi r. let z : k ≡ 1 = omega arith in subst (λ (v : X). over v x ≡ false) (same_Some x y (e ∙ ap at (sym z) ∙ r)) (not_itself x);
    first = λ k y lo hi. absurd (omega arith);
    once = λ _ k y lo hi. absurd (omega arith);
    again = λ t. absurd (both_ways false refl t);
  }

  module _ (n : ℕ) (top : X) (day : ℕ) (recurs : Bool) (x : X) (t : Tops over at n top day recurs) (e : Some x ≡ at (n + 1)) where
    full_more : Full at (n + 1)
    full_more k lo hi =
        ⊎_elim
        (λ lt. t.full k lo (omega arith))
        (λ ge. let z : n + 1 ≡ k = omega arith in (x, sym (e ∙ ap at z)))
        (cases_lt k (n + 1))

    tops_takes : over x top ≡ true → Tops over at (n + 1) x (n + 1) false
    tops_takes up = record {
      from = omega arith;
      to = omega arith;
      held = sym e;
      full = full_more;
      highest = λ k y lo hi r. more (λ v. over v x ≡ false) n k x y e (λ le. chain y top x (t.highest k y lo le r) (one_way x top up)) (not_itself x) hi r;
      first = λ k y lo hi r.
          ⊎_elim (λ v. v) (λ f. absurd (both_ways (over x top) (chain x y top f (t.highest k y lo (omega arith) r)) up)) (cases_Bool (over x y));
      once = λ _ k y lo hi. absurd (omega arith);
      again = λ w. absurd (both_ways false refl w);
    }

    tops_keeps : over x top ≡ false → over top x ≡ true → Tops over at (n + 1) top day recurs
    tops_keeps not-up down = record {
      from = t.from;
      to = omega (arith, t.to);
      held = t.held;
      full = full_more;
      highest = λ k y lo hi r. more (λ v. over v top ≡ false) n k x y e (λ le. t.highest k y lo le r) not-up hi r;
      first = t.first;
      once = λ w k y lo hi r. more (λ v. over top v ≡ true) n k x y e (λ le. t.once w k y lo le r) down hi r;
      again = λ w. let a = t.again w in (a.0, a.1, a.2, omega (arith, a.3), a.4, a.5);
    }

    tops_ties : over x top ≡ false → over top x ≡ false → Tops over at (n + 1) top day true
    tops_ties not-up not-down = record {
      from = t.from;
      to = omega (arith, t.to);
      held = t.held;
      full = full_more;
      highest = λ k y lo hi r. more (λ v. over v top ≡ false) n k x y e (λ le. t.highest k y lo le r) not-up hi r;
      first = t.first;
      once = λ w. absurd (both_ways true w refl);
      again = λ _. (n + 1, x, omega (arith, t.to), omega arith, sym e, (not-down, not-up));
    }

  pub tops_after : (n : ℕ) (top : Extreme X) (x : X) → Right over at n (Some top) → Some x ≡ at (n + 1) → Right over at (n + 1) (Some (after_day over top x (n + 1)))
  tops_after n top x t e =
      ⊎_elim
      (λ (up : over x top.reading ≡ true). rw up (tops_takes n _ _ _ x t e up))
      (λ (not-up : over x top.reading ≡ false).
      ⊎_elim
      (λ (down : over top.reading x ≡ true). rw (not-up, down) (tops_keeps n _ _ _ x t e not-up down))
      (λ (not-down : over top.reading x ≡ false). rw (not-up, not-down) (tops_ties n _ _ _ x t e not-up not-down))
      (cases_Bool (over top.reading x)))
      (cases_Bool (over x top.reading))

  -- the same for the days before a day, and then that day too
  pub tops_at : (day : ℕ) (top : Extreme X) (x : X) → 1 ≤ day → Right over at (day - 1) (Some top) → Some x ≡ at day → Right over at day (Some (after_day over top x day))
  tops_at day top x some t e =
      let back : day - 1 + 1 ≡ day = omega arith in
      subst (λ (n : ℕ). Right over at n (Some (after_day over top x n))) back (tops_after (day - 1) top x t (e ∙ ap at (sym back)))

-- ---- no other answer
module _ {X : Type 0} (over : X → X → Bool) (last : ℕ) where
  -- the extreme of readings is that of any others that are the same on those days
  tops_same : (at at' : ℕ → Option X) (top : X) (day : ℕ) (recurs : Bool) → Agree at at' last → Tops over at' last top day recurs → Tops over at last top day recurs
  tops_same at at' top day recurs same t = record {
    from = t.from;
    to = t.to;
    held = same day t.from t.to ∙ t.held;
    full = λ k lo hi. let f = t.full k lo hi in (f.0, same k lo hi ∙ f.1);
    highest = λ k x lo hi r. t.highest k x lo hi (sym (same k lo hi) ∙ r);
    first = λ k x lo hi r. t.first k x lo hi (sym (same k lo (omega (arith, t.to))) ∙ r);
    once = λ w k x lo hi r. t.once w k x lo hi (sym (same k (omega arith) hi) ∙ r);
    again = λ w. let a = t.again w in (a.0, a.1, a.2, a.3, same a.0 (omega (arith, a.2)) a.3 ∙ a.4, a.5);
  }

  lacking_same : (at at' : ℕ → Option X) → Agree at at' last → Lacking at' last → Lacking at last
  lacking_same at at' same = ⊎_elim inl (λ k. inr (k.0, k.1, k.2, same k.0 k.1 k.2 ∙ k.3))

  module _ (at : ℕ → Option X) where
    one_day : (x y : X) (j k : ℕ) (r s : Bool) → Tops over at last x j r → Tops over at last y k s → j ≡ k
    one_day x y j k r s t u =
        ⊎_elim
        (λ lt. absurd (both_ways (over y x) (t.highest k y u.from u.to u.held) (u.first j x t.from lt t.held)))
        (λ ge.
        ⊎_elim
        (λ lt. absurd (both_ways (over x y) (u.highest j x t.from t.to t.held) (t.first k y u.from lt u.held)))
        (λ le. omega arith)
        (cases_lt k j))
        (cases_lt j k)

    -- of one day, an extreme that recurs has no other that does not
    not_both : (x y : X) (j k : ℕ) → x ≡ y → j ≡ k → Tops over at last x j true → Tops over at last y k false → ⊥
    not_both x y j k same-x same_day t u =
        let a = t.again refl in
        both_ways (over x a.1) a.5.0 (subst (λ (v : X). over v a.1 ≡ true) (sym same-x) (u.once refl a.0 a.1 (omega (arith, a.2)) a.3 a.4))

    one_recurs : (x y : X) (j k : ℕ) (r s : Bool) → x ≡ y → j ≡ k → Tops over at last x j r → Tops over at last y k s → r ≡ s
    one_recurs x y j k true true e d t u = refl
    one_recurs x y j k false false e d t u = refl
    one_recurs x y j k true false e d t u = absurd (not_both x y j k e d t u)
    one_recurs x y j k false true e d t u = absurd (not_both y x k j (sym e) (sym d) u t)

    not_lacking : (x : X) (j : ℕ) (r : Bool) → Tops over at last x j r → Lacking at last → ⊥
    not_lacking x j r t (inl z) = omega (arith, t.from, t.to)
    not_lacking x j r t (inr k) = let f = t.full k.0 k.1 k.2 in none-some f.0 (sym k.3 ∙ f.1)

    one_right : (a b : Option (Extreme X)) → Right over at last a → Right over at last b → a ≡ b
    one_right None None l m = refl
    one_right None (Some e) l t = absurd (not_lacking _ _ _ t l)
    one_right (Some e) None t l = absurd (not_lacking _ _ _ t l)
    one_right (Some e) (Some f) t u =
        let day = one_day _ _ _ _ _ _ t u in
        let reading = same_Some e.reading f.reading (sym t.held ∙ ap at day ∙ u.held) in
        let recurs = one_recurs _ _ _ _ _ _ reading day t u in
        ap Some (same_extreme e f reading day recurs)

  right_same : (at at' : ℕ → Option X) (a : Option (Extreme X)) → Agree at at' last → Right over at' last a → Right over at last a
  right_same at at' None same l = lacking_same at at' same l
  right_same at at' (Some e) same t = tops_same at at' _ _ _ same t

  pub searched : (at : ℕ → Option X) (answer : Option (Extreme X)) → Right over at last answer → Searched over at last answer
  searched at answer right = record { right = right; only = λ at' same other r. one_right at other answer (right_same at at' other same r) right }
