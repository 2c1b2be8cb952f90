-- Relocation entries (PE/COFF, "COFF Relocations").
use Rattle.std.specs.Prelude.{ℕ, ◌+◌, List, [], ◌∷◌}
use Rattle.oc_base.specs.Numbers.{number_at}
use Rattle.oc_shelf.specs.Writing.Packed.{packed}
use Rattle.oc_coff.specs.declared.relocation.Relocation.{Relocation}

-- the relocation entry at a place of the file
unfoldable pub relocation_at : List ℕ → ℕ → Relocation
relocation_at file at = record {
  VirtualAddress = number_at file at 4;
  SymbolTableIndex = number_at file (at + 4) 4;
  «Type» = number_at file (at + 8) 2;
}

-- its bytes
unfoldable pub relocation_bytes : Relocation → List ℕ
relocation_bytes r = packed ((4, r.VirtualAddress) ∷ (4, r.SymbolTableIndex) ∷ (2, r.Type) ∷ [])
