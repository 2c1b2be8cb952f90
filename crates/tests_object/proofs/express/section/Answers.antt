use Rattle.tests_object.proofs.ElfObjects.{code_given, exception_given, init_given}
use Rattle.tests_object.proofs.express.section.Goals as goal

pub returns-in-Code-clause-given : goal.returns-in-Code-clause-given
returns-in-Code-clause-given c = code_given c.named.result c.named.ensures.name c.named.ensures.kind c.named.ensures.tag

pub returns-in-Init-clause-given : goal.returns-in-Init-clause-given
returns-in-Init-clause-given c = init_given c.named-in-Init.result c.named-in-Init.ensures.name c.named-in-Init.ensures.kind c.named-in-Init.ensures.tag

pub returns-in-Exception-clause-given : goal.returns-in-Exception-clause-given
returns-in-Exception-clause-given c = exception_given c.named-in-Exception.result c.named-in-Exception.ensures.name c.named-in-Exception.ensures.kind c.named-in-Exception.ensures.tag
