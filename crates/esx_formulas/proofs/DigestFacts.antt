-- A hash value taken on from group to group, and the end of a message with its padding.
use Rattle.std.proofs.Common.{◌≡◌, ℕ, zero, suc, ◌+◌, ◌-◌, ◌*◌, ◌/◌, ◌%◌, ◌^◌, ◌<◌, ◌≤◌, List, [], ◌∷◌, ◌++◌, length, take, drop, replicate, slice_index, slice_set, arith, refl, sym, ap, ◌∙◌, length-append, length-drop}
use Rattle.std.proofs.Math.Seq.{take-append-add}
use Rattle.std.proofs.lemmas.List.{append_assoc, drop-append-le, drop-drop, drop-replicate, length-take-le, length-replicate, set_at, take_all, take-append-drop, take-replicate}
use Rattle.std.proofs.lemmas.Slice.{take-put_mid}
use Rattle.std.specs.Int.{w32, w64, from_be_bytes, to_be_bytes}
use Rattle.sha2.specs.Sha256.{compress, digest_bytes, final_hash, hash_after, padded_message, padding}
use Rattle.sha2.proofs.Absorbing256.{hash_after-append}
use Rattle.esx_formulas.specs.Key.{from_bytes}
use borrow.Rule.Slice.PartMut.{put_mid}

-- the blocks of a message in two runs
hash_after-more : (h p : List ℕ) (m n : ℕ) → hash_after h p (m + n) ≡ hash_after (hash_after h p m) (drop (m * 64) p) n
unfolding hash_after
hash_after-more h p m zero =
    let e : m + 0 ≡ m = omega arith in
    rw e refl
hash_after-more h p m (suc n) =
    let e : m + suc n ≡ suc (m + n) = omega arith in
    let at : m * 64 + n * 64 ≡ (m + n) * 64 = omega arith in
    rw (e, hash_after-more h p m n, drop-drop (n * 64) (m * 64) p, at) refl

-- only the blocks that are counted are read
pub hash_after-take : (h p : List ℕ) (k n : ℕ) → n * 64 ≤ k → k ≤ length p → hash_after h (take k p) n ≡ hash_after h p n
hash_after-take h p k n fits le =
    let long : n * 64 ≤ length (take k p) = omega (arith, length-take-le k p le) in
    sym (hash_after-append h (take k p) (drop k p) n long) ∙ ap (λ (l : List ℕ). hash_after h l n) (take-append-drop k p)

-- a block alone
pub one_block : (h b : List ℕ) → length b ≡ 64 → compress h b ≡ hash_after h b 1
unfolding hash_after
one_block h b long = ap (compress h) (sym (take_all 64 b (omega arith)))

-- one more group of four blocks
pub group_more : (h p s : List ℕ) (i a w : ℕ) → a ≡ 256 * i → w ≡ 256 → a + 256 ≤ length p → s ≡ hash_after h p (4 * i)
    → hash_after s (take w (drop a p)) 4 ≡ hash_after h p (4 * (i + 1))
group_more h p s i a w ea ew fits held =
    let rest : 256 ≤ length (drop a p) = omega (arith, length-drop a p) in
    let at : a ≡ 4 * i * 64 = omega arith in
    let next : 4 * i + 4 ≡ 4 * (i + 1) = omega arith in
    let first : hash_after s (take 256 (drop a p)) 4 ≡ hash_after s (drop a p) 4 = hash_after-take s (drop a p) 256 4 (omega arith) rest in
    let whole : hash_after (hash_after h p (4 * i)) (drop (4 * i * 64) p) 4 ≡ hash_after h p (4 * i + 4) = sym (hash_after-more h p (4 * i) 4) in
    rw (ew, first, held, at, whole, next) refl

-- the first four blocks, and one after them
pub five_blocks : (s p : List ℕ) (n : ℕ) → n ≡ 5 → length p ≡ 512
    → hash_after (hash_after s (take 256 p) 4) (take 64 (drop 256 p)) 1 ≡ hash_after s p n
five_blocks s p n e long =
    let h : List ℕ = hash_after s p 4 in
    let q : List ℕ = drop 256 p in
    let rest : 64 ≤ length q = omega (arith, length-drop 256 p) in
    let four : hash_after s (take 256 p) 4 ≡ h = hash_after-take s p 256 4 (omega arith) (omega arith) in
    let fifth : hash_after h (take 64 q) 1 ≡ hash_after h q 1 = hash_after-take h q 64 1 (omega arith) rest in
    rw (e, four, fifth) (sym (hash_after-more s p 4 1))

-- the hash value of a message, from that of its groups and its end
pub whole_message : (h m rest tail s : List ℕ) (g n : ℕ) → s ≡ hash_after h m (4 * g) → 256 * g ≤ length m → rest ≡ drop (256 * g) m
    → take (n * 64) tail ≡ rest ++ padding (length m) → n * 64 ≤ length tail → hash_after s tail n ≡ final_hash h m
whole_message h m rest tail s g n held groups er et fits =
    let p : List ℕ = padded_message m in
    let at : 4 * g * 64 ≡ 256 * g = omega arith in
    let end : drop (4 * g * 64) p ≡ take (n * 64) tail = rw (at, et, er) (drop-append-le (256 * g) m (padding (length m)) groups) in
    let long : length m ≤ length p = omega (arith, length-append m (padding (length m))) in
    let left : length (drop (4 * g * 64) p) ≡ n * 64 = ap length end ∙ length-take-le (n * 64) tail fits in
    let count : length p ≡ 256 * g + n * 64 = omega (arith, length-drop (4 * g * 64) p) in
    let blocks : 4 * g + n ≡ length p / 64 = omega arith in
    let before : s ≡ hash_after h p (4 * g) = held ∙ sym (hash_after-append h m (padding (length m)) (4 * g) (omega arith)) in
    let first : hash_after s tail n ≡ hash_after s (take (n * 64) tail) n = sym (hash_after-take s tail (n * 64) n (omega arith) fits) in
    let whole : hash_after (hash_after h p (4 * g)) (drop (4 * g * 64) p) n ≡ hash_after h p (4 * g + n) = sym (hash_after-more h p (4 * g) n) in
    rw (first, before, ← end, whole, blocks) refl

-- the end of a message and its padding, in a buffer of zeros
pub padded_end : (rest bits : List ℕ) (k e total : ℕ) → length rest < 256 → total % 256 ≡ length rest → e ≡ (length rest + 72) / 64 * 64
    → bits ≡ to_be_bytes w64 (total * 8 % 2 ^ 64)
    → take e (put_mid (e - 8) k (slice_set (rest ++ drop (length rest) (replicate 512 0)) (length rest) 0x80) bits) ≡ rest ++ padding total
padded_end rest bits k e total short et ee eb =
    let used : ℕ = length rest in
    let zeros : ℕ = (119 - total % 64) % 64 in
    let buffer : List ℕ = rest ++ 0x80 ∷ replicate (511 - used) 0 in
    let next : 512 - used ≡ suc (511 - used) = omega arith in
    let clear : drop {A = ℕ} used (replicate 512 0) ≡ 0 ∷ replicate (511 - used) 0 = rw (drop-replicate {X = ℕ} used 512 0, next) refl in
    let marked : slice_set (rest ++ drop used (replicate 512 0)) used 0x80 ≡ buffer = rw clear (set_at rest 0 (replicate (511 - used) 0) 0x80 used refl) in
    let eight : length bits ≡ 8 = rw eb refl in
    let long : length buffer ≡ 512 = omega (arith, length-append {A = ℕ} rest (0x80 ∷ replicate (511 - used) 0), length-replicate {A = ℕ} (511 - used) 0) in
    let cut : e - 8 ≡ used + suc zeros = omega arith in
    let front : take (e - 8) buffer ≡ rest ++ 0x80 ∷ replicate zeros 0 = rw (cut, take-append-add rest (0x80 ∷ replicate (511 - used) 0) (suc zeros), take-replicate {X = ℕ} zeros (511 - used) 0 (omega arith)) refl in
    let whole : take e (put_mid (e - 8) k buffer bits) ≡ take (e - 8) buffer ++ bits = take-put_mid (e - 8) k buffer bits e (omega arith) (omega arith) in
    rw (marked, whole, front, eb, append_assoc) refl

number_of_bytes : (a b c d e f g h : ℕ) → from_be_bytes w64 (a ∷ b ∷ c ∷ d ∷ e ∷ f ∷ g ∷ h ∷ []) ≡ from_bytes (a ∷ b ∷ c ∷ d ∷ e ∷ f ∷ g ∷ h ∷ [])
number_of_bytes a b c d e f g h = omega arith

-- the first eight bytes of a digest, from the first two words of its hash value
pub first_two_words : (h a b : List ℕ) → a ≡ to_be_bytes w32 (slice_index h 0) → b ≡ to_be_bytes w32 (slice_index h 1)
    → from_be_bytes w64 (slice_index a 0 ∷ slice_index a 1 ∷ slice_index a 2 ∷ slice_index a 3 ∷ slice_index b 0 ∷ slice_index b 1 ∷ slice_index b 2 ∷ slice_index b 3 ∷ [])
    ≡ from_bytes (take 8 (digest_bytes h 8))
unfolding digest_bytes
first_two_words h a b ea eb = rw (ea, eb) (number_of_bytes _ _ _ _ _ _ _ _)
