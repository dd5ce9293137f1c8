-- A run that comes to a state of the shape that the premises are written for: a server with a handler for each of two tenants.
use Rattle.std.specs.Prelude.{ℕ, ◌==◌, ◌||◌, Bool, List, [], ◌∷◌}
use Rattle.nova_range.specs.declared.range.Kind.TheVariants.{Mem}
use Rattle.nova_model.specs.Boot.{Scenario}
use Rattle.law_integrity.specs.Examples.{image}
use Rattle.law_flow.specs.Flow.{Held}

-- On two processors, with 4 pages, the root makes a server's protection domain 3, with page 1, and two handlers in it, the local threads 4 and 5, with portals 6 and 7 to them. It makes two tenants, domains 8 and 9, gives each
-- one of the portals, with the right to send exits, and makes a virtual CPU in each, 10 and 11, with scheduling contexts 12 and 13. Handler 5 and tenant 11 are on processor 1. Then it dies, all in 59 turns.
-- Handlers begin in page 1, in these words.
abbrev pub serving : List ℕ → Scenario
serving words = record {
  cpus = 2;
  ram = 2;
  consoles = 0;
  root = record { pc = 0; sp = 0; priority = 1; quantum = 100 };
  images =
      image 0 (2099347 ∷ 33555731 ∷ 5687 ∷ 30803475 ∷ 115 ∷ 3147923 ∷ 35652883 ∷ 33555859 ∷ 1555 ∷ 115 ∷ 36701459 ∷ 1050131 ∷ 115 ∷ 5245075 ∷ 67110163 ∷ 1427 ∷ 35653139 ∷ 5943 ∷ 115 ∷ 68158739 ∷ 36701715 ∷ 115 ∷ 2099347 ∷ 37750035 ∷ 263735 ∷ 20317715 ∷ 115 ∷ 38798611 ∷ 267831 ∷ 20317715 ∷ 115 ∷ 3147923 ∷ 39847187 ∷ 37750163 ∷ 536872467 ∷ 67110675 ∷ 115 ∷ 40895763 ∷ 38798739 ∷ 537921043 ∷ 68159251 ∷ 115 ∷ 4196499 ∷ 41944339 ∷ 1427 ∷ 39847443 ∷ 268437139 ∷ 115 ∷ 42992915 ∷ 40896019 ∷ 115 ∷ 1048691 ∷ [])
      ∷ image 4096 words
      ∷ [];
  sources = [];
}

-- they reply at once
abbrev pub served_tenants : Scenario
served_tenants = serving (1050771 ∷ 115 ∷ [])

-- or with an item, which gives page 1 at 0
abbrev pub paged_tenants : Scenario
paged_tenants = serving (5047 ∷ 13861779 ∷ 4294963895 ∷ 66359 ∷ 6463523 ∷ 510831651 ∷ 1049747 ∷ 512929315 ∷ 1050771 ∷ 115 ∷ [])

-- the first tenant's domain, and the objects of its part: its virtual CPU, its portal, and the handler that serves it
abbrev pub tenant_domain : ℕ → Bool
tenant_domain n = n == 8

abbrev pub tenant_objects : ℕ → Bool
tenant_objects n = (n == 4) || ((n == 6) || (n == 10))

-- what the server gives the first tenant: page 1, at 0
abbrev pub given_page : Held
given_page = record { range = record { kind = Mem; base = 0; order = 0 }; rights = record { 0 = 3 }; target = 1 }
