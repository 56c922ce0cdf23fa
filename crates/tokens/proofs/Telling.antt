-- The column of a fault is that of the leftmost.
use Rattle.std.proofs.Common.{◌≡◌, ℕ, zero, suc, ◌+◌, ◌<◌, Bool, true, false, cond, eqb, List, [], ◌∷◌, ◌++◌, length, take, drop, Some, None, Ok, Err, Option, Result, sym, refl, ap, ◌∙◌, subst, inl, inr, append_assoc, add-one, arith, length-append, take-append-drop}
use mathlib.Core.Path.{fun_ext}
use Rattle.std.proofs.lemmas.Bool.{eqb-true, eqb-false, ne_eqb}
use Rattle.std.specs.Char.{is_ascii_digit}
use Rattle.std.specs.List.{prefix_len}
use Rattle.tokens.specs.Number.{worth}
use Rattle.tokens.specs.Word.{wrong, digits_or}
use Rattle.tokens.specs.Numbers.{read, taken, counted, prepend}
use Rattle.tokens.specs.Laws.{AllDigits, Spells, spaced}
use Rattle.tokens.specs.Faults.{Ended, NoDigit, Told, TellsRight}

-- the digits at the front, and what follows
pub record Split (bs : List ℕ) (n : ℕ) : Type 0 where
  pub digits : AllDigits (take n bs)
  pub ends : NoDigit (drop n bs)
  pub long : length (take n bs) ≡ n

split : (bs : List ℕ) → Split bs (prefix_len is_ascii_digit bs)
split [] = record { digits = tt; ends = tt; long = refl }
split (b ∷ bs) = let one : suc (prefix_len is_ascii_digit bs) ≡ 1 + prefix_len is_ascii_digit bs = omega arith in subst (λ (n : ℕ). Split (b ∷ bs) (cond (is_ascii_digit b) n 0)) one (by_first (is_ascii_digit b) refl (split bs))
  where
    by_first : (d : Bool) → is_ascii_digit b ≡ d → Split bs (prefix_len is_ascii_digit bs) → Split (b ∷ bs) (cond d (suc (prefix_len is_ascii_digit bs)) 0)
    by_first true e s = record { digits = (e, s.digits); ends = s.ends; long = ap suc s.long }
    by_first false e s = record { digits = tt; ends = e; long = refl }

module _ (k c b : ℕ) (bs : List ℕ) (space : b ≡ 32) where
  one_more : (ds : List ℕ) (v : ℕ) (r : Result (List ℕ) ℕ) → Spells ds v → ds ++ drop (length ds) bs ≡ bs → NoDigit (drop (length ds) bs) → Told k (c + (length ds + 1)) (drop (length ds) bs) r → Told (suc k) c (b ∷ bs) (prepend (v ∷ []) r)
  one_more ds v (Ok ns) s cut ends t = record {
    dss = ds ∷ t.dss;
    spells = (s, t.spells);
    count = ap suc t.count;
    cut = ap (λ x. x ∷ bs) space ∙ ap (λ l. 32 ∷ l) (sym cut ∙ ap (λ l. ds ++ l) t.cut);
  }
  one_more ds v (Err e) s cut ends t = record {
    dss = ds ∷ t.dss;
    ns = v ∷ t.ns;
    spells = (s, t.spells);
    left = t.left;
    count = omega (arith, t.count);
    tail = t.tail;
    cut = ap (λ x. x ∷ bs) space ∙ ap (λ l. 32 ∷ l) (sym cut ∙ ap (λ l. ds ++ l) t.cut ∙ sym (append_assoc ds (spaced t.dss) t.tail));
    ended = still t.dss t.tail t.cut t.ended;
    on = t.on;
    fault = t.fault;
    column = omega (arith, t.column, length-append ds (spaced t.dss));
  }
    where
      still : (dss : List (List ℕ)) (tail : List ℕ) → drop (length ds) bs ≡ spaced dss ++ tail → Ended dss tail → NoDigit tail
      still [] tail e h = subst NoDigit e ends
      still (d ∷ dss) tail e h = h

  by_worth : (n : ℕ) → 0 < n → Split bs n → (o : Option ℕ) → worth (take n bs) ≡ o → Told k (c + (length (take n bs) + 1)) (drop (length (take n bs)) bs) (read k (c + (length (take n bs) + 1)) (drop (length (take n bs)) bs)) → Told (suc k) c (b ∷ bs) (counted o (c + 1) (read k (c + (length (take n bs) + 1)) (drop (length (take n bs)) bs)))
  by_worth n some s (Some v) e t =
      one_more (take n bs) v (read k (c + (length (take n bs) + 1)) (drop (length (take n bs)) bs)) (record { some = omega (arith, s.long); digits = s.digits; value = e }) (ap (λ m. take n bs ++ drop m bs) s.long ∙ take-append-drop n bs) (subst (λ (m : ℕ). NoDigit (drop m bs)) (sym s.long) s.ends) t
  by_worth n some s None e t = record {
    dss = [];
    ns = [];
    spells = tt;
    left = suc k;
    count = omega arith;
    tail = b ∷ bs;
    cut = refl;
    ended = tt;
    on = 1;
    fault = inr (bs, ap (λ x. x ∷ bs) space, refl, inr (record { ds = take n bs; more = drop n bs; some = omega (arith, s.long); digits = s.digits; ends = s.ends; cut = sym (take-append-drop n bs); high = e }));
    column = refl;
  }

  by_digits : (n : ℕ) → Split bs n → ((m : ℕ) → Told k (c + (m + 1)) (drop m bs) (read k (c + (m + 1)) (drop m bs))) → Told (suc k) c (b ∷ bs) (taken (digits_or n bs) c (λ m. read k (c + (m + 1)) (drop m bs)))
  by_digits zero s t = record {
    dss = [];
    ns = [];
    spells = tt;
    left = suc k;
    count = omega arith;
    tail = b ∷ bs;
    cut = refl;
    ended = tt;
    on = 1;
    fault = inr (bs, ap (λ x. x ∷ bs) space, refl, inl s.ends);
    column = refl;
  }
  by_digits (suc n) s t = rw (ne_eqb (suc n) 0 (λ z. omega arith)) (by_worth (suc n) (omega arith) s (worth (take (suc n) bs)) refl (t (length (take (suc n) bs))))

by_space : (k c b : ℕ) (bs : List ℕ) (e : Bool) → eqb b 32 ≡ e → ((m : ℕ) → Told k (c + (m + 1)) (drop m bs) (read k (c + (m + 1)) (drop m bs))) → Told (suc k) c (b ∷ bs) (taken (cond e (digits_or (prefix_len is_ascii_digit bs) bs) (wrong 0)) c (λ m. read k (c + (m + 1)) (drop m bs)))
by_space k c b bs true e t = by_digits k c b bs (eqb-true b 32 e) (prefix_len is_ascii_digit bs) (split bs) t
by_space k c b bs false e t = record {
  dss = [];
  ns = [];
  spells = tt;
  left = suc k;
  count = omega arith;
  tail = b ∷ bs;
  cut = refl;
  ended = tt;
  on = 0;
  fault = inl (eqb-false b 32 e, refl);
  column = refl;
}

pub tells_right : TellsRight
tells_right zero c [] = record { dss = []; spells = tt; count = refl; cut = refl }
tells_right zero c (b ∷ bs) = record { dss = []; ns = []; spells = tt; left = 0; count = refl; tail = b ∷ bs; cut = refl; ended = tt; on = 0; fault = (omega arith, refl); column = omega arith }
tells_right (suc k) c [] = record { dss = []; ns = []; spells = tt; left = suc k; count = omega arith; tail = []; cut = refl; ended = tt; on = 0; fault = inl (tt, refl); column = refl }
tells_right (suc k) c (b ∷ bs) =
    subst (λ (f : ℕ → Result (List ℕ) ℕ). Told (suc k) c (b ∷ bs) (taken (cond (eqb b 32) (digits_or (prefix_len is_ascii_digit bs) bs) (wrong 0)) c f)) (fun_ext (λ m. rw add-one refl)) (by_space k c b bs (eqb b 32) refl (λ m. tells_right k (c + (m + 1)) (drop m bs)))
