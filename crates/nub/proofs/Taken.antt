-- Threads taken from a line: marks, masks and woken records.
use Rattle.std.proofs.Common.{◌≡◌, ℕ, zero, suc, ◌+◌, ◌*◌, ◌%◌, ◌^◌, ◌<◌, Bool, true, false, cond, ◌||◌, List, [], ◌∷◌, length, get_or, take, set, sym, refl, ap, ◌∙◌, subst, ⊎_elim, le_of_suc-le-suc, not-suc-le-zero, add-zero, add-suc, suc-add, pow-suc, zero-add, add-one, arith, get_or-set_other, get_or-set_same}
use mathlib.Core.Bool.{or-true}
use Rattle.std.proofs.lemmas.Bool.{cases_eq}
use Rattle.std.proofs.lemmas.Bool.Decides.{nat_tests}
use lib.Bits.{bit_or, or_shifted_r}
use Rattle.std.proofs.lemmas.Nat.{one_shl}
use Rattle.lines.specs.Lines.{without, has}
use Rattle.stages.specs.Names.{num}
use Rattle.thread.specs.Turns.{idle_thread, woken_thread}
use Rattle.thread.specs.declared.record.Thread.{Thread}
use Rattle.stages.specs.declared.step.LineEffect.{LineEffect}
use Rattle.nub.specs.declared.Core.{Core}
use Rattle.nub.specs.Model.{mask_of}
use Rattle.nub.specs.Work.{with_threads, with_counts, count_at, kept_on, wake_from, signalled, freed_mask}
use Rattle.nub.specs.Marked.{wake_marked, signalled_marked, mask_marked}

pub has_without : (n t : ℕ) (xs : List ℕ) → (n ≡ t → ⊥) → has n (without t xs) ≡ has n xs
has_without n t [] ne = refl
has_without n t (x ∷ xs) ne = let ih = has_without n t xs ne in grind (arith, nat_tests, ih)

-- a member more is marked, and a member less stands in line
pub marks_more : (xs : List ℕ) (t n : ℕ) (bs : List Bool) → has t xs ≡ true → n < length bs → (get_or (set bs t true) n false || has n (without t xs)) ≡ (get_or bs n false || has n xs)
marks_more xs t n bs e h =
    ⊎_elim
    (λ (q : n ≡ t). subst (λ (m : ℕ). (get_or (set bs m true) n false || has n (without m xs)) ≡ (get_or bs n false || has n xs)) q
    (ap (λ b. b || has n (without n xs)) (get_or-set_same bs n true false h)
    ∙ sym (ap (λ b. get_or bs n false || b) (subst (λ (m : ℕ). has m xs ≡ true) (sym q) e) ∙ or-true (get_or bs n false))))
    (λ (q : n ≡ t → ⊥). ap (λ b. b || has n (without t xs)) (get_or-set_other bs t n true false q) ∙ ap (λ b. get_or bs n false || b) (has_without n t xs q))
    (cases_eq n t)

-- what marks and a line have between them stays, where a member is taken and marked
pub marks_again : (xs₀ xs xs' : List ℕ) (bs₀ bs bs' : List Bool) (t : ℕ) → xs' ≡ without t xs → bs' ≡ set bs t true → has t xs ≡ true → length bs ≡ length bs₀
    → ((n : ℕ) → n < length bs₀ → (get_or bs n false || has n xs) ≡ (get_or bs₀ n false || has n xs₀))
    → (n : ℕ) → n < length bs₀ → (get_or bs' n false || has n xs') ≡ (get_or bs₀ n false || has n xs₀)
marks_again xs₀ xs xs' bs₀ bs bs' t ex eb m l inv n h =
    let long : n < length bs = omega arith in
    let here = marks_more xs t n bs m long in
    let was = inv n h in
    cc

-- the mask with one thread more
pub mask_step : (p : ℕ → Bool) (n : ℕ) → mask_of p (suc n) ≡ mask_of p n + cond (p n) (2 ^ n) 0
mask_step p zero = elim (p 0) as (λ b. num b + 2 * 0 ≡ 0 + cond b (2 ^ 0) 0) [ true ↦ refl | false ↦ refl ]
mask_step p (suc n) =
    let ih : mask_of (λ u. p (suc u)) (suc n) ≡ mask_of (λ u. p (suc u)) n + cond (p (suc n)) (2 ^ n) 0 = mask_step (λ u. p (suc u)) n in
    let d : 2 ^ suc n ≡ 2 ^ n * 2 = pow-suc 2 n in
    let e : cond (p (suc n)) (2 ^ suc n) 0 ≡ 2 * cond (p (suc n)) (2 ^ n) 0 = elim (p (suc n)) as (λ b. cond b (2 ^ suc n) 0 ≡ 2 * cond b (2 ^ n) 0) [ true ↦ omega arith | false ↦ refl ] in
    omega arith

pub mask_lt : (p : ℕ → Bool) (n : ℕ) → mask_of p n < 2 ^ n
mask_lt p zero = omega arith
mask_lt p (suc n) =
    let ih : mask_of p n < 2 ^ n = mask_lt p n in
    let d : 2 ^ suc n ≡ 2 ^ n * 2 = pow-suc 2 n in
    let s : mask_of p (suc n) ≡ mask_of p n + cond (p n) (2 ^ n) 0 = mask_step p n in
    let z : mask_of p n + cond (p n) (2 ^ n) 0 < 2 ^ suc n = elim (p n) as (λ b. mask_of p n + cond b (2 ^ n) 0 < 2 ^ suc n) [ true ↦ omega arith | false ↦ omega arith ] in
    subst (λ (m : ℕ). m < 2 ^ suc n) (sym s) z

pub mask_more : (p : ℕ → Bool) (n m m' : ℕ) → n < 64 → m ≡ mask_of p n → p n ≡ true → m' ≡ bit_or m ((1 * 2 ^ n) % 2 ^ 64) → m' ≡ mask_of p (n + 1)
mask_more p n m m' h e t q =
    let l : mask_of p n < 2 ^ n = mask_lt p n in
    let b : m < 2 ^ n = subst (λ (x : ℕ). x < 2 ^ n) (sym e) l in
    let o : bit_or m (1 * 2 ^ n) ≡ 1 * 2 ^ n + m = or_shifted_r 1 n m b in
    let s : (1 * 2 ^ n) % 2 ^ 64 ≡ 2 ^ n = one_shl n 64 h in
    let w : 1 * 2 ^ n ≡ 2 ^ n = omega arith in
    let c : cond (p n) (2 ^ n) 0 ≡ 2 ^ n = ap (λ x. cond x (2 ^ n) 0) t in
    let all : m' ≡ 2 ^ n + m = q ∙ ap (λ x. bit_or m x) (s ∙ sym w) ∙ o ∙ ap (λ x. x + m) w in
    let z : m' ≡ mask_of p n + 2 ^ n = all ∙ ap (λ x. 2 ^ n + x) e ∙ native.Mathlib.Nat.add_comm (2 ^ n) (mask_of p n) in
    z ∙ ap (λ x. mask_of p n + x) (sym c) ∙ sym (mask_step p n) ∙ ap (λ (k : ℕ). mask_of p k) (sym (add-one n))

pub mask_skip : (p : ℕ → Bool) (n m m' : ℕ) → m ≡ mask_of p n → p n ≡ false → m' ≡ m → m' ≡ mask_of p (n + 1)
mask_skip p n m m' e t q =
    let c : cond (p n) (2 ^ n) 0 ≡ 0 = ap (λ x. cond x (2 ^ n) 0) t in
    q ∙ e ∙ sym (add-zero (mask_of p n)) ∙ ap (λ x. mask_of p n + x) (sym c) ∙ sym (mask_step p n) ∙ ap (λ (k : ℕ). mask_of p k) (sym (add-one n))

pub free_more : (w : LineEffect) (bs : List Bool) (ts : List Thread) (n : ℕ) → n < length bs → n < length ts → get_or bs n false ≡ true
    → set (wake_marked w (take n bs) ts) n (woken_thread w (get_or (wake_marked w (take n bs) ts) n idle_thread)) ≡ wake_marked w (take (suc n) bs) ts
free_more w [] ts n h l e = absurd (not-suc-le-zero h)
free_more w (b ∷ bs) [] n h l e = absurd (not-suc-le-zero l)
free_more w (b ∷ bs) (t ∷ ts) zero h l e = ap (λ x. cond x (woken_thread w t) t ∷ ts) (sym e)
free_more w (b ∷ bs) (t ∷ ts) (suc n) h l e = ap (λ (l : List Thread). cond b (woken_thread w t) t ∷ l) (free_more w bs ts n (le_of_suc-le-suc h) (le_of_suc-le-suc l) e)

pub free_skip : (w : LineEffect) (bs : List Bool) (ts : List Thread) (n : ℕ) → n < length bs → n < length ts → get_or bs n false ≡ false
    → wake_marked w (take n bs) ts ≡ wake_marked w (take (suc n) bs) ts
free_skip w [] ts n h l e = absurd (not-suc-le-zero h)
free_skip w (b ∷ bs) [] n h l e = absurd (not-suc-le-zero l)
free_skip w (b ∷ bs) (t ∷ ts) zero h l e = ap (λ x. cond x (woken_thread w t) t ∷ ts) (sym e)
free_skip w (b ∷ bs) (t ∷ ts) (suc n) h l e = ap (λ (l : List Thread). cond b (woken_thread w t) t ∷ l) (free_skip w bs ts n (le_of_suc-le-suc h) (le_of_suc-le-suc l) e)

pub free_step : (w : LineEffect) (bs : List Bool) (ts us us' : List Thread) (n : ℕ) (x : Thread) → n < length bs → n < length ts → get_or bs n false ≡ true
    → us ≡ wake_marked w (take n bs) ts → x ≡ woken_thread w (get_or us n idle_thread) → us' ≡ set us n x → us' ≡ wake_marked w (take (n + 1) bs) ts
free_step w bs ts us us' n x h l e i f s =
    let m = free_more w bs ts n h l e in
    let j : ◌≡◌ {A = ℕ} (n + 1) (suc n) = add-one n in
    let k : wake_marked w (take (n + 1) bs) ts ≡ wake_marked w (take (suc n) bs) ts = ap (λ (a : ℕ). wake_marked w (take a bs) ts) j in
    s ∙ ap (λ (y : Thread). set us n y) f ∙ ap (λ (vs : List Thread). set vs n (woken_thread w (get_or vs n idle_thread))) i ∙ m ∙ sym k

pub free_still : (w : LineEffect) (bs : List Bool) (ts us us' : List Thread) (n : ℕ) → n < length bs → n < length ts → get_or bs n false ≡ false
    → us ≡ wake_marked w (take n bs) ts → us' ≡ us → us' ≡ wake_marked w (take (n + 1) bs) ts
free_still w bs ts us us' n h l e i s = s ∙ i ∙ free_skip w bs ts n h l e ∙ sym (ap (λ (a : ℕ). wake_marked w (take a bs) ts) (add-one n))

pub mask_ext : (p q : ℕ → Bool) (n : ℕ) → ((k : ℕ) → k < n → p k ≡ q k) → mask_of p n ≡ mask_of q n
mask_ext p q zero h = refl
mask_ext p q (suc n) h =
    ap (λ (b : Bool). num b + 2 * mask_of (λ u. p (suc u)) n) (h 0 (omega arith))
    ∙ ap (λ (x : ℕ). num (q 0) + 2 * x) (mask_ext (λ u. p (suc u)) (λ u. q (suc u)) n (λ k l. h (suc k) (omega arith)))

pub free_ext : (e : LineEffect) (us : List ℕ) (bs : List Bool) (ts : List Thread) (i : ℕ) → length bs ≡ length ts
    → ((k : ℕ) → k < length bs → get_or bs k false ≡ has (i + k) us) → wake_marked e bs ts ≡ wake_from e us i ts
free_ext e us [] [] i l h = refl
free_ext e us [] (t ∷ ts) i l h = absurd (omega arith)
free_ext e us (b ∷ bs) [] i l h = refl
free_ext e us (b ∷ bs) (t ∷ ts) i l h =
    let here : b ≡ has i us = h 0 (omega arith) ∙ ap (λ (m : ℕ). has m us) (add-zero i) in
    ap (λ (x : Bool). cond x (woken_thread e t) t ∷ wake_marked e bs ts) here
    ∙ ap (λ (l : List Thread). cond (has i us) (woken_thread e t) t ∷ l)
    (free_ext e us bs ts (suc i) (omega arith) (λ k q. h (suc k) (omega arith) ∙ ap (λ (m : ℕ). has m us) (add-suc i k ∙ sym (suc-add i k))))

-- one thread woken, by a list of one and by its place
wake_past : (e : LineEffect) (u n : ℕ) (ts : List Thread) → u < n → wake_from e (u ∷ []) n ts ≡ ts
wake_past e u n [] h = refl
wake_past e u n (t ∷ ts) h =
    let no : has n (u ∷ []) ≡ false = grind (arith, nat_tests) in
    ap (λ (b : Bool). cond b (woken_thread e t) t ∷ wake_from e (u ∷ []) (suc n) ts) no
    ∙ ap (λ (l : List Thread). t ∷ l) (wake_past e u (suc n) ts (omega arith))

wake_place : (e : LineEffect) (u n v : ℕ) (ts : List Thread) → u ≡ n + v → wake_from e (u ∷ []) n ts ≡ set ts v (woken_thread e (get_or ts v idle_thread))
wake_place e u n v [] h = refl
wake_place e u n zero (t ∷ ts) h =
    let yes : has n (u ∷ []) ≡ true = grind (arith, nat_tests) in
    ap (λ (b : Bool). cond b (woken_thread e t) t ∷ wake_from e (u ∷ []) (suc n) ts) yes
    ∙ ap (λ (l : List Thread). woken_thread e t ∷ l) (wake_past e u (suc n) ts (omega arith))
wake_place e u n (suc v) (t ∷ ts) h =
    let no : has n (u ∷ []) ≡ false = grind (arith, nat_tests) in
    ap (λ (b : Bool). cond b (woken_thread e t) t ∷ wake_from e (u ∷ []) (suc n) ts) no
    ∙ ap (λ (l : List Thread). t ∷ l) (wake_place e u (suc n) v ts (omega arith))

pub wake_one : (e : LineEffect) (u : ℕ) (ts : List Thread) → wake_from e (u ∷ []) 0 ts ≡ set ts u (woken_thread e (get_or ts u idle_thread))
wake_one e u ts = wake_place e u 0 u ts (omega arith)

wake_nobody : (e : LineEffect) (n : ℕ) (ts : List Thread) → wake_from e [] n ts ≡ ts
wake_nobody e n [] = refl
wake_nobody e n (t ∷ ts) = ap (λ (l : List Thread). t ∷ l) (wake_nobody e (suc n) ts)

pub wake_none : (e : LineEffect) (ts : List Thread) → wake_from e [] 0 ts ≡ ts
wake_none e ts = wake_nobody e 0 ts

-- marks that have exactly the members us
module _ (us : List ℕ) (bs : List Bool) (c : ℕ) (k : Core) (l : length bs ≡ 64) (m : (n : ℕ) → n < 64 → get_or bs n false ≡ has n us) where
  wake_marks : (e : LineEffect) → length k.threads ≡ 64 → wake_marked e bs k.threads ≡ wake_from e us 0 k.threads
  wake_marks e t = free_ext e us bs k.threads 0 (omega arith) (λ n h. m n (omega arith) ∙ ap (λ (x : ℕ). has x us) (sym (zero-add n)))

  pub signalled_marks : (e : LineEffect) → length k.threads ≡ 64 → signalled_marked e c bs k ≡ signalled e c us k
  signalled_marks e t = ap (λ (ts : List Thread). with_threads (with_counts k (set k.counts c ((count_at k c + 1) % 2 ^ 32))) ts) (wake_marks e t)

  pub mask_marks : mask_marked c bs k ≡ freed_mask c us k
  mask_marks = mask_ext (λ n. get_or bs n false || kept_on k c (count_at k c) n) (λ n. has n us || kept_on k c (count_at k c) n) 64 (λ n h. ap (λ (x : Bool). x || kept_on k c (count_at k c) n) (m n h))
