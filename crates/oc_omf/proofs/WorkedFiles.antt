-- OMF modules from outside: worked cases, and what other tools write.
use Rattle.std.specs.Prelude.{ℕ, List, [], ◌∷◌}

-- OMF with threads: `_TEXT` of 8 bytes in the group FLAT, the external symbols `foo` and `bar`; a frame thread is in force over records, a target thread is told anew within one
abbrev pub threads : List ℕ
threads =
    128 ∷ 3 ∷ 0 ∷ 1 ∷ 97 ∷ 27 ∷ 150 ∷ 18 ∷ 0 ∷ 0 ∷ 4 ∷ 70 ∷ 76 ∷ 65 ∷ 84 ∷ 5 ∷ 95 ∷ 84 ∷ 69 ∷ 88 ∷ 84 ∷ 4 ∷ 67 ∷ 79
    ∷ 68 ∷ 69 ∷ 101 ∷ 153 ∷ 9 ∷ 0 ∷ 105 ∷ 8 ∷ 0 ∷ 0 ∷ 0 ∷ 3 ∷ 4 ∷ 1 ∷ 229 ∷ 154 ∷ 2 ∷ 0 ∷ 2 ∷ 98 ∷ 140 ∷ 11 ∷ 0 ∷ 3
    ∷ 102 ∷ 111 ∷ 111 ∷ 0 ∷ 3 ∷ 98 ∷ 97 ∷ 114 ∷ 0 ∷ 234 ∷ 157 ∷ 5 ∷ 0 ∷ 68 ∷ 1 ∷ 8 ∷ 1 ∷ 16 ∷ 161 ∷ 14 ∷ 0 ∷ 1 ∷ 0 ∷ 0
    ∷ 0 ∷ 0 ∷ 0 ∷ 0 ∷ 0 ∷ 0 ∷ 0 ∷ 0 ∷ 0 ∷ 0 ∷ 80 ∷ 157 ∷ 9 ∷ 0 ∷ 228 ∷ 0 ∷ 140 ∷ 8 ∷ 2 ∷ 228 ∷ 4 ∷ 140 ∷ 108 ∷ 138
    ∷ 2 ∷ 0 ∷ 0 ∷ 116 ∷ []

-- `_TEXT` of 24 bytes, twice four bytes three times over, with a self-relative fixup to `foo`, whose frame is that of the target
abbrev pub iterated : List ℕ
iterated =
    128 ∷ 3 ∷ 0 ∷ 1 ∷ 97 ∷ 27 ∷ 150 ∷ 18 ∷ 0 ∷ 0 ∷ 4 ∷ 70 ∷ 76 ∷ 65 ∷ 84 ∷ 5 ∷ 95 ∷ 84 ∷ 69 ∷ 88 ∷ 84 ∷ 4 ∷ 67 ∷ 79
    ∷ 68 ∷ 69 ∷ 101 ∷ 153 ∷ 9 ∷ 0 ∷ 105 ∷ 24 ∷ 0 ∷ 0 ∷ 0 ∷ 3 ∷ 4 ∷ 1 ∷ 213 ∷ 154 ∷ 2 ∷ 0 ∷ 2 ∷ 98 ∷ 140 ∷ 6 ∷ 0 ∷ 3
    ∷ 102 ∷ 111 ∷ 111 ∷ 0 ∷ 39 ∷ 163 ∷ 23 ∷ 0 ∷ 1 ∷ 0 ∷ 0 ∷ 0 ∷ 0 ∷ 3 ∷ 0 ∷ 0 ∷ 0 ∷ 1 ∷ 0 ∷ 2 ∷ 0 ∷ 0 ∷ 0 ∷ 0
    ∷ 0 ∷ 4 ∷ 0 ∷ 0 ∷ 0 ∷ 0 ∷ 59 ∷ 157 ∷ 5 ∷ 0 ∷ 164 ∷ 13 ∷ 86 ∷ 1 ∷ 86 ∷ 138 ∷ 2 ∷ 0 ∷ 0 ∷ 116 ∷ []

-- a module that says nothing, with true checksums
abbrev pub named : List ℕ
named =
    128 ∷ 3 ∷ 0 ∷ 1 ∷ 97 ∷ 27 ∷ 138 ∷ 2 ∷ 0 ∷ 0 ∷ 116 ∷ []

-- the same with a checksum of 0
abbrev pub unsummed : List ℕ
unsummed =
    128 ∷ 3 ∷ 0 ∷ 1 ∷ 97 ∷ 0 ∷ 138 ∷ 2 ∷ 0 ∷ 0 ∷ 116 ∷ []

-- the same with a wrong one
abbrev pub missummed : List ℕ
missummed =
    128 ∷ 3 ∷ 0 ∷ 1 ∷ 97 ∷ 28 ∷ 138 ∷ 2 ∷ 0 ∷ 0 ∷ 116 ∷ []

-- iterated data of 4,294,967,295 copies in a segment of 16 bytes
abbrev pub lying : List ℕ
lying =
    128 ∷ 3 ∷ 0 ∷ 1 ∷ 97 ∷ 27 ∷ 150 ∷ 2 ∷ 0 ∷ 0 ∷ 0 ∷ 153 ∷ 9 ∷ 0 ∷ 169 ∷ 16 ∷ 0 ∷ 0 ∷ 0 ∷ 1 ∷ 1 ∷ 1 ∷ 0 ∷ 163
    ∷ 14 ∷ 0 ∷ 1 ∷ 0 ∷ 0 ∷ 0 ∷ 0 ∷ 255 ∷ 255 ∷ 255 ∷ 255 ∷ 0 ∷ 0 ∷ 1 ∷ 0 ∷ 0 ∷ 138 ∷ 2 ∷ 0 ∷ 0 ∷ 116 ∷ []

-- a call: a self-relative fixup at 1 of `_TEXT` to `foo`, which is external, and `main`, which is public at 0
abbrev pub call : List ℕ
call =
    128 ∷ 9 ∷ 0 ∷ 7 ∷ 111 ∷ 98 ∷ 106 ∷ 99 ∷ 111 ∷ 110 ∷ 118 ∷ 127 ∷ 150 ∷ 18 ∷ 0 ∷ 0 ∷ 4 ∷ 70 ∷ 76 ∷ 65 ∷ 84 ∷ 5 ∷ 95 ∷ 84
    ∷ 69 ∷ 88 ∷ 84 ∷ 4 ∷ 67 ∷ 79 ∷ 68 ∷ 69 ∷ 101 ∷ 153 ∷ 9 ∷ 0 ∷ 105 ∷ 6 ∷ 0 ∷ 0 ∷ 0 ∷ 3 ∷ 4 ∷ 1 ∷ 231 ∷ 154 ∷ 2 ∷ 0
    ∷ 2 ∷ 98 ∷ 140 ∷ 6 ∷ 0 ∷ 3 ∷ 102 ∷ 111 ∷ 111 ∷ 0 ∷ 39 ∷ 145 ∷ 13 ∷ 0 ∷ 1 ∷ 1 ∷ 4 ∷ 109 ∷ 97 ∷ 105 ∷ 110 ∷ 0 ∷ 0 ∷ 0
    ∷ 0 ∷ 0 ∷ 183 ∷ 161 ∷ 12 ∷ 0 ∷ 1 ∷ 0 ∷ 0 ∷ 0 ∷ 0 ∷ 232 ∷ 0 ∷ 0 ∷ 0 ∷ 0 ∷ 195 ∷ 167 ∷ 157 ∷ 6 ∷ 0 ∷ 164 ∷ 1 ∷ 22
    ∷ 1 ∷ 1 ∷ 160 ∷ 138 ∷ 2 ∷ 0 ∷ 0 ∷ 116 ∷ []

-- by hand from TIS OMF 1.1: five segments of each kind, iterated data in the third, symbols of each binding, and three fixups, the first with a displacement
abbrev pub assorted : List ℕ
assorted =
    128 ∷ 3 ∷ 0 ∷ 1 ∷ 97 ∷ 0 ∷ 150 ∷ 47 ∷ 0 ∷ 0 ∷ 4 ∷ 70 ∷ 76 ∷ 65 ∷ 84 ∷ 5 ∷ 95 ∷ 84 ∷ 69 ∷ 88 ∷ 84 ∷ 4 ∷ 67 ∷ 79
    ∷ 68 ∷ 69 ∷ 4 ∷ 68 ∷ 65 ∷ 84 ∷ 65 ∷ 3 ∷ 66 ∷ 83 ∷ 83 ∷ 6 ∷ 68 ∷ 69 ∷ 66 ∷ 83 ∷ 89 ∷ 77 ∷ 5 ∷ 67 ∷ 79 ∷ 78 ∷ 83 ∷ 84
    ∷ 6 ∷ 77 ∷ 89 ∷ 67 ∷ 79 ∷ 68 ∷ 69 ∷ 0 ∷ 153 ∷ 9 ∷ 0 ∷ 41 ∷ 12 ∷ 0 ∷ 0 ∷ 0 ∷ 3 ∷ 9 ∷ 1 ∷ 0 ∷ 152 ∷ 7 ∷ 0 ∷ 73
    ∷ 4 ∷ 0 ∷ 5 ∷ 6 ∷ 1 ∷ 0 ∷ 153 ∷ 9 ∷ 0 ∷ 137 ∷ 8 ∷ 0 ∷ 0 ∷ 0 ∷ 5 ∷ 6 ∷ 1 ∷ 0 ∷ 153 ∷ 9 ∷ 0 ∷ 169 ∷ 2 ∷ 0
    ∷ 0 ∷ 0 ∷ 7 ∷ 7 ∷ 1 ∷ 0 ∷ 153 ∷ 9 ∷ 0 ∷ 105 ∷ 2 ∷ 0 ∷ 0 ∷ 0 ∷ 8 ∷ 8 ∷ 0 ∷ 0 ∷ 154 ∷ 4 ∷ 0 ∷ 2 ∷ 255 ∷ 1
    ∷ 0 ∷ 183 ∷ 12 ∷ 0 ∷ 0 ∷ 1 ∷ 3 ∷ 108 ∷ 111 ∷ 99 ∷ 4 ∷ 0 ∷ 0 ∷ 0 ∷ 0 ∷ 0 ∷ 180 ∷ 6 ∷ 0 ∷ 3 ∷ 108 ∷ 111 ∷ 99 ∷ 0
    ∷ 0 ∷ 140 ∷ 6 ∷ 0 ∷ 3 ∷ 102 ∷ 111 ∷ 111 ∷ 0 ∷ 0 ∷ 176 ∷ 17 ∷ 0 ∷ 3 ∷ 99 ∷ 111 ∷ 109 ∷ 0 ∷ 98 ∷ 129 ∷ 12 ∷ 0 ∷ 3 ∷ 112
    ∷ 117 ∷ 98 ∷ 0 ∷ 98 ∷ 4 ∷ 0 ∷ 144 ∷ 10 ∷ 0 ∷ 1 ∷ 3 ∷ 3 ∷ 112 ∷ 117 ∷ 98 ∷ 8 ∷ 0 ∷ 0 ∷ 0 ∷ 163 ∷ 29 ∷ 0 ∷ 3 ∷ 1
    ∷ 0 ∷ 0 ∷ 0 ∷ 2 ∷ 0 ∷ 0 ∷ 0 ∷ 2 ∷ 0 ∷ 1 ∷ 0 ∷ 0 ∷ 0 ∷ 0 ∷ 0 ∷ 2 ∷ 1 ∷ 2 ∷ 1 ∷ 0 ∷ 0 ∷ 0 ∷ 0 ∷ 0
    ∷ 1 ∷ 3 ∷ 0 ∷ 161 ∷ 18 ∷ 0 ∷ 1 ∷ 0 ∷ 0 ∷ 0 ∷ 0 ∷ 254 ∷ 255 ∷ 255 ∷ 255 ∷ 16 ∷ 0 ∷ 0 ∷ 0 ∷ 0 ∷ 0 ∷ 0 ∷ 0 ∷ 0
    ∷ 157 ∷ 20 ∷ 0 ∷ 228 ∷ 0 ∷ 18 ∷ 1 ∷ 1 ∷ 5 ∷ 0 ∷ 0 ∷ 0 ∷ 228 ∷ 4 ∷ 38 ∷ 2 ∷ 2 ∷ 228 ∷ 8 ∷ 4 ∷ 3 ∷ 3 ∷ 0 ∷ 138
    ∷ 2 ∷ 0 ∷ 0 ∷ 0 ∷ []
