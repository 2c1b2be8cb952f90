-- A fixup that is written is read.
use Rattle.std.proofs.Common.{◌≡◌, ℕ, ◌+◌, ◌*◌, ◌/◌, ◌%◌, ◌^◌, ◌<◌, ◌⊎◌, Bool, true, false, not, nat_le, if◌then◌else◌, List, [], ◌∷◌, ◌++◌, Ok, refl, ◌∙◌, ap, subst, arith, append-nil}
use Rattle.oc_neutral.specs.KindRules.{has}
use Rattle.oc_omf.specs.{declared.structures.Method.{Method}, declared.structures.Datum.{Datum}, declared.structures.Subrecord.{Subrecord}}
use Rattle.oc_omf.specs.Cursor.{next, number_read}
use Rattle.oc_omf.specs.Structures.{bits, method_read, thread_read, frame_read, target_read, displacement_read, fixup_read, subrecord_read}
use Rattle.oc_omf.specs.Bytes.{index_bytes, first_of, fix_of, frame_bytes, fixup_bytes}
use Rattle.oc_omf.specs.declared.structures.Datum.TheVariants as datum
use Rattle.oc_omf.specs.declared.structures.Subrecord.TheVariants as subrecord
use Rattle.oc_omf_file.proofs.{CursorLaws.{Reads, reads_index, reads_next}, SaidLaws.{reads_byte, reads_last}}

-- a fix byte without threads and with no displacement: a frame of that method, a target of that method
pub record IsFix (fix frame target : ℕ) : Type 0 where
  pub own_frame : has fix 0x80 ≡ false
  pub frame_is : bits 4 3 fix ≡ frame
  pub own_target : has fix 8 ≡ false
  pub target_is : bits 0 2 fix ≡ target
  pub displaced : has fix 4 ≡ true

-- a frame without an index
reads_bare_frame : (fix frame target : ℕ) → IsFix fix frame target → nat_le frame 2 ≡ false → Reads (frame_read fix) [] (datum.Explicit (record { number = frame; index = 0 }))
unfolding frame_read method_read
reads_bare_frame fix frame target f bare b at s = let e : at ≡ at + 0 = omega arith in rw (f.own_frame, f.frame_is, bare) (ap (λ k. Ok (datum.Explicit (record { number = frame; index = 0 }), k)) e)

-- a frame with an index
reads_indexed_frame : (fix frame target index : ℕ) → IsFix fix frame target → nat_le frame 2 ≡ true → index < 32768
    → Reads (frame_read fix) (index_bytes index) (datum.Explicit (record { number = frame; index = index }))
unfolding frame_read method_read
reads_indexed_frame fix frame target index f indexed small b at s = rw (f.own_frame, f.frame_is, indexed, reads_index index small b at s) refl

reads_target : (fix frame target index : ℕ) → IsFix fix frame target → index < 32768 → Reads (target_read fix) (index_bytes index) (datum.Explicit (record { number = target; index = index }))
unfolding target_read
reads_target fix frame target index f small b at s = rw (f.own_target, f.target_is, reads_index index small b at s) refl

reads_no_displacement : (fix frame target : ℕ) → IsFix fix frame target → Reads (displacement_read true fix) [] 0
unfolding displacement_read
reads_no_displacement fix frame target f b at s = let e : at ≡ at + 0 = omega arith in rw f.displaced (ap (λ k. Ok (0, k)) e)

-- a fixup by its first byte, with that frame
abbrev pub fixed : ℕ → ℕ → Datum → Datum → Subrecord
fixed first low frame target = subrecord.Fixup (record {
  segment_relative = has first 0x40;
  location = bits 2 4 first;
  offset = bits 0 2 first * 256 + low;
  frame = frame;
  target = target;
  displacement = 0;
})

reads_fixed : (first low fix frame target index : ℕ) (frame_bytes : List ℕ) (d : Datum) → IsFix fix frame target → index < 32768 → Reads (frame_read fix) frame_bytes d
    → Reads (fixup_read true first) (low ∷ [] ++ (fix ∷ [] ++ (frame_bytes ++ index_bytes index))) (fixed first low d (datum.Explicit (record { number = target; index = index })))
unfolding fixup_read
reads_fixed first low fix frame target index frame_bytes d f small reads_frame =
    reads_next (number_read 1) _ (low ∷ []) _ low _ (reads_byte low)
    (reads_next (number_read 1) _ (fix ∷ []) _ fix _ (reads_byte fix)
    (reads_next (frame_read fix) _ frame_bytes _ d _ reads_frame
    (subst (λ (zs : List ℕ). Reads (λ b p. next (target_read fix b p) (λ z q. next (displacement_read true fix b q) (λ e r. Ok (
      subrecord.Fixup (record {
        segment_relative = has first 0x40;
        location = bits 2 4 first;
        offset = bits 0 2 first * 256 + low;
        frame = d;
        target = z;
        displacement = e;
      }),
      r,
    )))) zs
    (fixed first low d (datum.Explicit (record { number = target; index = index })))) (append-nil (index_bytes index))
    (reads_next (target_read fix) _ (index_bytes index) [] _ _ (reads_target fix frame target index f small)
    (reads_last (displacement_read true fix) _ [] 0 (reads_no_displacement fix frame target f))))))

-- a subrecord that is a fixup
reads_fix : (first : ℕ) (bytes : List ℕ) (x : Subrecord) → has first 0x80 ≡ true → Reads (fixup_read true first) bytes x → Reads (subrecord_read true) (first ∷ [] ++ bytes) x
unfolding subrecord_read
reads_fix first bytes x fixup reads =
    reads_next (number_read 1) _ (first ∷ []) bytes first x (reads_byte first)
    (λ b at s. ap (λ t. if t then fixup_read true first b at else thread_read first b at) fixup ∙ reads b at s)

-- ... the first byte

-- what it says
pub record IsFirst (first : ℕ) (self : Bool) (at : ℕ) : Type 0 where
  pub fixup : has first 0x80 ≡ true
  pub relative : has first 0x40 ≡ not self
  pub location : bits 2 4 first ≡ 9
  pub offset : bits 0 2 first * 256 + at % 256 ≡ at

pub first_is : (self : Bool) (at : ℕ) → at < 1024 → IsFirst (first_of self at) self at
first_is true at small = record {
  fixup = let e : (2 ^ 7 + 0 + 9 * 2 ^ 2 + at / 256) / 128 % 2 ≡ 1 = grind arith in rw e refl;
  relative = let e : (2 ^ 7 + 0 + 9 * 2 ^ 2 + at / 256) / 64 % 2 ≡ 0 = grind arith in rw e refl;
  location = grind arith;
  offset = grind arith;
}
first_is false at small = record {
  fixup = let e : (2 ^ 7 + 2 ^ 6 + 9 * 2 ^ 2 + at / 256) / 128 % 2 ≡ 1 = grind arith in rw e refl;
  relative = let e : (2 ^ 7 + 2 ^ 6 + 9 * 2 ^ 2 + at / 256) / 64 % 2 ≡ 1 = grind arith in rw e refl;
  location = grind arith;
  offset = grind arith;
}

-- ... all

-- the frame of the target, or group 1
abbrev pub frame_by : Bool → Method
frame_by home = if home then record { number = 5; index = 0 } else record { number = 1; index = 1 }

-- a fixup as it reads
abbrev pub fixup_said : Bool → Bool → ℕ → Method → Subrecord
fixup_said self home at m = subrecord.Fixup (record { segment_relative = not self; location = 9; offset = at; frame = datum.Explicit (frame_by home); target = datum.Explicit m; displacement = 0 })

fix_is : (home : Bool) (m : Method) → (m.number ≡ 0) ⊎ (m.number ≡ 2) → IsFix (fix_of (frame_by home) m) (frame_by home).number m.number
fix_is home m y = grind arith

reads_frame_by : (home : Bool) (m : Method) → (m.number ≡ 0) ⊎ (m.number ≡ 2) → Reads (frame_read (fix_of (frame_by home) m)) (frame_bytes (frame_by home)) (datum.Explicit (frame_by home))
reads_frame_by true m e = reads_bare_frame (fix_of (frame_by true) m) 5 m.number (fix_is true m e) refl
reads_frame_by false m e = reads_indexed_frame (fix_of (frame_by false) m) 1 m.number 1 (fix_is false m e) refl (omega arith)

pub reads_fixup : (self home : Bool) (at : ℕ) (m : Method) → at < 1024 → (m.number ≡ 0) ⊎ (m.number ≡ 2) → m.index < 32768
    → Reads (subrecord_read true) (fixup_bytes self at (frame_by home) m) (fixup_said self home at m)
reads_fixup self home at m near number small =
    let f : IsFirst (first_of self at) self at = first_is self at near in
    let frame : Datum = datum.Explicit (frame_by home) in
    let same : fixed (first_of self at) (at % 256) frame (datum.Explicit m) ≡ fixup_said self home at m
    = ap (λ r. subrecord.Fixup (record { segment_relative = r; location = bits 2 4 (first_of self at); offset = bits 0 2 (first_of self at) * 256 + at % 256; frame = frame; target = datum.Explicit m; displacement = 0 })) f.relative
    ∙ ap (λ l. subrecord.Fixup (record { segment_relative = not self; location = l; offset = bits 0 2 (first_of self at) * 256 + at % 256; frame = frame; target = datum.Explicit m; displacement = 0 })) f.location
    ∙ ap (λ k. subrecord.Fixup (record { segment_relative = not self; location = 9; offset = k; frame = frame; target = datum.Explicit m; displacement = 0 })) f.offset in
    subst (Reads (subrecord_read true) (fixup_bytes self at (frame_by home) m)) same
    (reads_fix (first_of self at) _ _ f.fixup
    (reads_fixed (first_of self at) (at % 256) (fix_of (frame_by home) m) (frame_by home).number m.number m.index (frame_bytes (frame_by home)) frame (fix_is home m number) small
    (reads_frame_by home m number)))
