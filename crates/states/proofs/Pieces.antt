-- Lists that are written over, as the loops leave them.
--   unpacked-more                   words written one behind another, after i turns
--   packed-zeros, mission-padded    zeros behind the bytes change no word, and no mission's number
--   padded-all, unpacked-padded, joined-padded   bytes with zeros behind them: how many they are; the bytes of packed words, and of a part over
--                   them
--   packed-padded                   the words of bytes, as far as the longest record goes, over zeros
use mathlib.Core.Path.{◌≡◌, refl, sym, ap, ◌∙◌}
use mathlib.Core.List.{List, [], ◌∷◌, ◌++◌, append_assoc}
use Prim.Native.Nat.{ℕ, zero, suc, ◌+◌, ◌-◌, ◌*◌, ◌≤◌, ◌<◌}
use native.Mathlib.Omega.{arith}
use native.Mathlib.Numerals.{add-one}
use lib.ListN.{length, get_or, take, drop, replicate, length-replicate, replicate-append-replicate, length-append, length-take, length-drop, get_or-append, get_or-eq_default, get_or-replicate}
use lib.Seq.{ext_get_or, get_or-drop, take_all, take_at, drop_at, take-suc, length-take-le, get_or-append-add}
use Rattle.refusal.proofs.Answers.{by_order}
use Rattle.record.specs.Numbers.{AllBytes, mission_in, written}
use Rattle.record.proofs.Pieces.{written_twice}
use Rattle.record.proofs.Words.{words_same, all_append, all_take, all_replicate}
use Rattle.states.specs.Words.{longs, packed, unpacked}
use Rattle.states.specs.Steps.{joined_to, padded}
use Rattle.states.proofs.Packed.{packed-long, unpacked-long, unpacked-bytes, packed-back}

-- ---- words written one behind another

unpacked-append : (xs ys : List ℕ) → unpacked (xs ++ ys) ≡ unpacked xs ++ unpacked ys
unpacked-append [] ys = refl
unpacked-append (x ∷ xs) ys = ap (λ (r : List ℕ). unpacked (x ∷ []) ++ r) (unpacked-append xs ys)

pub unpacked-more : (s ws : List ℕ) (i : ℕ) {t u : List ℕ} → length s ≡ 8 * length ws → i < length ws → t ≡ written s 0 (unpacked (take i ws))
    → u ≡ written t (8 * i) (unpacked (get_or ws i 0 ∷ [])) → u ≡ written s 0 (unpacked (take (i + 1) ws))
unpacked-more s ws i fits h e f =
    let b = unpacked (get_or ws i 0 ∷ []) in
    let a = unpacked (take i ws) in
    let n : 8 * i ≡ 0 + length a = omega (arith, unpacked-long (take i ws), length-take-le i ws (omega arith)) in
    let g : unpacked (take (i + 1) ws) ≡ a ++ b =
    ap (λ (k : ℕ). unpacked (take k ws)) (add-one i) ∙ ap unpacked (take-suc ws i 0 h) ∙ unpacked-append (take i ws) (get_or ws i 0 ∷ [])
    in
    f ∙ ap (λ (r : List ℕ). written r (8 * i) b) e ∙ ap (λ (k : ℕ). written (written s 0 a) k b) n
    ∙ written_twice s 0 a b (omega (arith, n))
    ∙ ap (written s 0) (sym g)

-- ---- zeros behind

padded-at : (front : List ℕ) (n i : ℕ) → get_or (front ++ replicate n 0) i 0 ≡ get_or front i 0
padded-at front n i =
    by_order (length front) i
    (λ l.
    let at : i ≡ length front + (i - length front) = omega arith in
    ap (λ (k : ℕ). get_or (front ++ replicate n 0) k 0) at
    ∙ get_or-append-add front (replicate n 0) (i - length front) 0
    ∙ zero-at n (i - length front)
    ∙ sym (get_or-eq_default front 0 l))
    (λ l. get_or-append front (replicate n 0) 0 i l)
  where
    zero-at : (n j : ℕ) → ◌≡◌ {A = ℕ} (get_or (replicate n 0) j 0) 0
    zero-at zero j = refl
    zero-at (suc n) zero = refl
    zero-at (suc n) (suc j) = zero-at n j

pub packed-zeros : (front : List ℕ) (n : ℕ) → packed (front ++ replicate n 0) ≡ packed front
packed-zeros front n = ap longs (words_same 14 front (front ++ replicate n 0) 0 0 (λ j _. padded-at front n (0 + j)))

pub mission-padded : (front : List ℕ) (n : ℕ) → mission_in (front ++ replicate n 0) ≡ mission_in front
mission-padded front n = λ i. padded-at front n 4 i + 256 * padded-at front n 5 i

drop-zeros : (k n : ℕ) → drop {A = ℕ} k (replicate n 0) ≡ replicate (n - k) 0
drop-zeros k n =
    let long : length (drop {A = ℕ} k (replicate n 0)) ≡ n - k = length-drop {A = ℕ} k (replicate n 0) ∙ ap (λ (m : ℕ). m - k) (length-replicate {A = ℕ} n 0) in
    ext_get_or 0 (drop k (replicate n 0)) (replicate (n - k) 0) (long ∙ sym (length-replicate {A = ℕ} (n - k) 0))
    (λ i l. get_or-drop k (replicate n 0) i 0 ∙ get_or-replicate n (k + i) 0 0 (omega (arith, long)) ∙ sym (get_or-replicate (n - k) i 0 0 (omega (arith, long))))

module _ (s : List ℕ) {x : List ℕ} (e : x ≡ take 52 s ++ drop (length s) (replicate 52 0)) where
  pub packed-padded : packed (x ++ replicate 4 0) ≡ packed (take 52 s)
  packed-padded =
      ap (λ (y : List ℕ). packed (y ++ replicate 4 0)) (e ∙ ap (λ (z : List ℕ). take 52 s ++ z) (drop-zeros (length s) 52))
      ∙ packed-zeros (take 52 s ++ replicate (52 - length s) 0) 4
      ∙ packed-zeros (take 52 s) (52 - length s)

-- ---- a part over the bytes of words

zeros-first : (k n : ℕ) → k ≤ n → take {A = ℕ} k (replicate n 0) ≡ replicate k 0
zeros-first k n l =
    let m : n ≡ k + (n - k) = omega arith in
    ap (λ (j : ℕ). take k (replicate j 0)) m
    ∙ ap (take k) (sym (replicate-append-replicate k (n - k) 0))
    ∙ take_at (replicate k 0) (replicate (n - k) 0) k (length-replicate {A = ℕ} k 0)

pub padded-all : (front : List ℕ) → length front ≤ 56 → length (padded front) ≡ 56
padded-all front l = omega (arith, length-append front (replicate (56 - length front) 0), length-replicate {A = ℕ} (56 - length front) 0)

pub unpacked-padded : (front : List ℕ) → AllBytes front → length front ≤ 56 → unpacked (packed front) ≡ padded front
unpacked-padded front h l =
    let all = padded-all front l in
    let long : length (unpacked (packed (padded front))) ≡ length (padded front) = omega (arith, all, unpacked-long (packed (padded front)), packed-long (padded front)) in
    ap unpacked (sym (packed-zeros front (56 - length front)))
    ∙ sym (take_all (length (padded front)) (unpacked (packed (padded front))) (omega (arith, long)))
    ∙ packed-back (padded front) (all_append front (replicate (56 - length front) 0) h (all_replicate (56 - length front) 0 (omega arith))) (omega (arith, all))

module _ (ws part : List ℕ) (held : ℕ) (own : ws ≡ packed (take held (unpacked ws))) (short : held ≤ 52) where
  abbrev bytes : List ℕ
  bytes = unpacked ws

  abbrev front : List ℕ
  front = take held bytes

  bytes-long : length bytes ≡ 56
  bytes-long = omega (arith, unpacked-long ws, ap length own, packed-long front)

  front_long : length front ≡ held
  front_long = length-take-le held bytes (omega (arith, bytes-long))

  behind-zero : drop held bytes ≡ replicate (56 - held) 0
  behind-zero =
      ap (drop held) (ap unpacked own ∙ unpacked-padded front (all_take held bytes (unpacked-bytes ws)) (omega (arith, front_long)))
      ∙ drop_at front (replicate (56 - length front) 0) held front_long
      ∙ ap (λ (n : ℕ). replicate (56 - n) 0) front_long

  middle : take (52 - held) (drop held bytes) ≡ replicate (52 - held) 0
  middle = ap (take (52 - held)) behind-zero ∙ zeros-first (52 - held) (56 - held) (omega arith)

  last : drop (52 - held) (drop held bytes) ≡ replicate 4 0
  last =
      let n : 56 - held - (52 - held) ≡ 4 = omega arith in
      ap (drop (52 - held)) behind-zero ∙ drop-zeros (52 - held) (56 - held) ∙ ap (λ (m : ℕ). replicate m 0) n

  pub joined-padded : {y : List ℕ} → y ≡ take (length (take (52 - held) (drop held bytes))) part ++ drop (length part) (take (52 - held) (drop held bytes))
      → take held bytes ++ (y ++ drop (52 - held) (drop held bytes)) ≡ padded (joined_to front held part)
  joined-padded {y} e =
      let there = take (52 - held) part in
      let zeros = 52 - held - length part in
      let y-is : y ≡ there ++ replicate zeros 0 =
      e ∙ ap (λ (m : List ℕ). take (length m) part ++ drop (length part) m) middle
      ∙ ap (λ (n : ℕ). take n part ++ drop (length part) (replicate (52 - held) 0)) (length-replicate {A = ℕ} (52 - held) 0)
      ∙ ap (λ (z : List ℕ). there ++ z) (drop-zeros (length part) (52 - held))
      in
      let count : zeros + 4 ≡ 56 - length (front ++ there) = omega (arith, length-append front there, front_long, length-take (52 - held) part) in
      (λ i. front ++ (y-is i ++ last i))
      ∙ ap (λ (z : List ℕ). front ++ z) (append_assoc there (replicate zeros 0) (replicate 4 0) ∙ ap (λ (z : List ℕ). there ++ z) (replicate-append-replicate zeros 4 0))
      ∙ sym (append_assoc front there (replicate (zeros + 4) 0))
      ∙ ap (λ (n : ℕ). (front ++ there) ++ replicate n 0) count
