-- The characteristics of a section are read back.
use Rattle.std.proofs.Common.{◌≡◌, ℕ, ◌+◌, ◌*◌, ◌/◌, ◌%◌, ◌^◌, ◌<◌, ◌≤◌, arith}
use Rattle.oc_neutral.specs.Coff.Kinds.{coff_tag}

-- a tag, an alignment, and the flags of a section with copies and of a count that does not fit
pub record IsFlags (tag a c o : ℕ) : Type 0 where
  pub own : coff_tag tag ≡ tag
  pub small : tag < 2 ^ 32
  pub one : 1 ≤ a
  pub align : a ≤ 14
  pub copies : c ≤ 1
  pub crowded : o ≤ 1

module _ (tag a c o : ℕ) (fl : IsFlags tag a c o) where
  -- the tag has nothing where the others stand
  pub record IsSplit : Type 0 where
    pub high : ℕ
    pub middle : ℕ
    pub low : ℕ
    pub parts : tag ≡ high * 2 ^ 25 + middle * 2 ^ 13 + low
    pub few : high < 2 ^ 7
    pub some : middle < 2 ^ 7
    pub small : low < 2 ^ 12

  split : IsSplit
  unfolding coff_tag
  split =
      let own : coff_tag tag ≡ tag = fl.own in
      let below = fl.small in
      record { high = tag / 2 ^ 25; middle = tag / 2 ^ 13 % 2 ^ 7; low = tag % 2 ^ 12; parts = omega (arith, own); few = omega (arith, below); some = omega arith; small = omega arith }

  abbrev flags : ℕ
  flags = tag + a * 2 ^ 20 + c * 0x1000 + o * 0x1000000

  pub flags_small : flags < 2 ^ 32
  flags_small = let s = split in let e = s.parts in let f = s.few in let m = s.some in let l = s.small in let al = fl.align in let cl = fl.copies in let ol = fl.crowded in omega (arith, e, f, m, l, al, cl, ol)

  pub flags_align : flags / 2 ^ 20 % 16 ≡ a
  flags_align = let s = split in let e = s.parts in let m = s.some in let l = s.small in let al = fl.align in let cl = fl.copies in let ol = fl.crowded in omega (arith, e, m, l, al, cl, ol)

  pub flags_overflow : flags / 0x1000000 % 2 ≡ o
  flags_overflow = let s = split in let e = s.parts in let m = s.some in let l = s.small in let al = fl.align in let cl = fl.copies in let ol = fl.crowded in omega (arith, e, m, l, al, cl, ol)

  pub flags_copies : flags / 0x1000 % 2 ≡ c
  flags_copies = let s = split in let e = s.parts in let m = s.some in let l = s.small in let cl = fl.copies in omega (arith, e, m, l, cl)

  pub flags_zeros : flags / 0x80 % 2 ≡ tag / 0x80 % 2
  flags_zeros = omega arith

  pub flags_tag : coff_tag flags ≡ tag
  unfolding coff_tag
  flags_tag = let s = split in let e = s.parts in let m = s.some in let l = s.small in let al = fl.align in let cl = fl.copies in let ol = fl.crowded in omega (arith, e, m, l, al, cl, ol)
