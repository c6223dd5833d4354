pub mod TimesBack
